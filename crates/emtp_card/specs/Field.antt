-- The columns of a card, and the field that they hold.
use Rattle.std.specs.Prelude.{ℕ, ◌+◌, ◌-◌, List, [], ◌∷◌, ◌++◌, take, drop, replicate, slice_index_or, if◌then◌else◌}
use Rattle.std.specs.List.{list_all}
use Rattle.emtp_card.specs.Lines.{is_blank}

-- a line with blanks after its end
abbrev pub filled : List ℕ → List ℕ
filled line = line ++ replicate 80 32

-- the bytes of the columns first to last, counted from 1; columns past the line's end are blank
unfoldable pub columns : List ℕ → ℕ → ℕ → List ℕ
columns line first last = take (last + 1 - first) (drop (first - 1) (filled line))

-- a text without its blanks in front
abbrev pub without_leading : List ℕ → List ℕ
without_leading [] = []
without_leading (byte ∷ bytes) = if is_blank byte then without_leading bytes else byte ∷ bytes

-- a text without its blanks at the end
abbrev pub without_trailing : List ℕ → List ℕ
without_trailing [] = []
without_trailing (byte ∷ bytes) = if list_all is_blank (byte ∷ bytes) then [] else byte ∷ without_trailing bytes

-- a text without its outer blanks; inner ones stay
unfoldable pub trimmed : List ℕ → List ℕ
trimmed text = without_leading (without_trailing text)

-- the field in the columns first to last, as it is read
abbrev pub field_of : List ℕ → ℕ → ℕ → List ℕ
field_of line first last = trimmed (columns line first last)

-- the byte in a column, counted from 1; a column past the line's end is blank
abbrev pub byte_in : List ℕ → ℕ → ℕ
byte_in line column = slice_index_or line (column - 1) 32
