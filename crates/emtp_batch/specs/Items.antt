-- The items of a line.
use Rattle.std.specs.Prelude.{ℕ, Bool, false, not, List, [], ◌∷◌, if◌then◌else◌}
use Rattle.emtp_card.specs.Lines.{is_blank}

-- whether a text goes on with the item in front
abbrev pub begins_with_item : List ℕ → Bool
begins_with_item [] = false
begins_with_item (byte ∷ bytes) = not (is_blank byte)

-- the first item with a byte more in front
abbrev pub first_with : ℕ → List (List ℕ) → List (List ℕ)
first_with byte [] = (byte ∷ []) ∷ []
first_with byte (item ∷ items) = (byte ∷ item) ∷ items

-- the items of a text, which blanks part
unfoldable pub items_of : List ℕ → List (List ℕ)
items_of [] = []
items_of (byte ∷ bytes) =
    if is_blank byte then items_of bytes
    else if begins_with_item bytes then first_with byte (items_of bytes)
    else (byte ∷ []) ∷ items_of bytes
