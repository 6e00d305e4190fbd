-- The warnings of a line's columns, under the ruler of its card.
use Rattle.std.specs.Prelude.{ℕ, zero, suc, ◌+◌, ◌-◌, ◌==◌, length, max, min, position, take, drop, Bool, not, ◌&&◌, List, [], ◌∷◌, ◌++◌, Option, Some, None, if◌then◌else◌}
use Rattle.std.specs.Char.{is_ascii_digit, is_ascii_lowercase}
use Rattle.emtp_card.specs.Field.{byte_in, trimmed}
use Rattle.emtp_card.specs.Lines.{is_blank}
use Rattle.emtp_warnings.specs.Finding.{found, of_columns}
use Rattle.emtp_warnings.specs.declared.finding.Finding.TheVariants.{LateName, NotRead, NumbersTouch}
use Rattle.emtp_warnings.specs.declared.finding.Warning.{Warning}

-- a column that isn't blank and that no field has
abbrev pub is_unread : List ℕ → List ℕ → ℕ → Bool
is_unread ruler line column = is_blank (byte_in ruler column) && not (is_blank (byte_in line column))

-- where the unread columns in a row begin that may end with the next column
abbrev pub run_with : List ℕ → List ℕ → ℕ → ℕ → ℕ
run_with ruler line column run = if is_unread ruler line column then run else column + 1

-- that may end with the column behind these
abbrev pub run_to : List ℕ → List ℕ → ℕ → ℕ
run_to ruler line zero = 1
run_to ruler line (suc before) = run_with ruler line (suc before) (run_to ruler line before)

-- the end of a number's field and the beginning of the next one's
abbrev pub is_border : ℕ → ℕ → Bool
is_border mark next = is_ascii_digit mark && (is_ascii_digit next && not (mark == next))

-- bytes of two numbers' fields that stand side by side
abbrev pub touches : List ℕ → List ℕ → ℕ → Bool
touches ruler line column =
    is_border (byte_in ruler column) (byte_in ruler (column + 1))
    && (not (is_blank (byte_in line column)) && not (is_blank (byte_in line (column + 1))))

-- where the field of the next column begins
abbrev pub first_with : List ℕ → ℕ → ℕ → ℕ
first_with ruler column first = if byte_in ruler (column + 1) == byte_in ruler column then first else column + 1

-- where the field of a column begins
abbrev pub first_to : List ℕ → ℕ → ℕ
first_to ruler zero = 1
first_to ruler (suc before) = first_with ruler (suc before) (first_to ruler before)

-- how many columns behind a column another mark stands, if one does
abbrev pub other_behind : List ℕ → ℕ → ℕ → Option ℕ
other_behind ruler column mark = position (λ next. not (next == mark)) (drop (min column (length ruler)) ruler)

abbrev pub last_by : List ℕ → ℕ → Option ℕ → ℕ
last_by ruler column (Some more) = column + more
last_by ruler column None = max (length ruler) column

-- the last column of the field that begins with a column
abbrev pub last_of : List ℕ → ℕ → ℕ
last_of ruler column = last_by ruler column (other_behind ruler column (byte_in ruler column))

-- the end of a name's field and the beginning of the next one's, where it matters in which of them a name stands
abbrev pub is_name_border : ℕ → ℕ → Bool
is_name_border mark next = is_ascii_lowercase mark && (is_ascii_lowercase next && not (mark == next))

-- what stands in columns, without the outer blanks
abbrev pub within : List ℕ → ℕ → ℕ → List ℕ
within line first last = trimmed (take (last + 1 - first) (drop (first - 1) line))

-- a name that ends with its field and doesn't begin with it, beside the blank field of another name, which ends with a column
abbrev pub is_late : List ℕ → List ℕ → ℕ → ℕ → ℕ → Bool
is_late ruler line column first last =
    is_name_border (byte_in ruler column) (byte_in ruler (column + 1))
    && (is_blank (byte_in line first) && (not (is_blank (byte_in line column)) && length (within line (column + 1) last) == 0))

-- what a column warns of, where the unread columns in a row begin that may end with it, and where its field does: the numbers
-- of two fields that touch, a name at the end of its field, and all unread columns in a row
abbrev pub at_column : List ℕ → ℕ → List ℕ → ℕ → ℕ → ℕ → List Warning
at_column ruler number line column run first = found
    ((touches ruler line column, of_columns number column (column + 1) (NumbersTouch first (last_of ruler (column + 1))))
    ∷ (is_late ruler line column first (last_of ruler (column + 1)), of_columns number first column LateName)
    ∷ (is_unread ruler line column && not (is_unread ruler line (column + 1)), of_columns number run column NotRead) ∷ [])

-- what the first columns warn of
abbrev pub up_to_column : List ℕ → ℕ → List ℕ → ℕ → List Warning
up_to_column ruler number line zero = []
up_to_column ruler number line (suc before) =
    up_to_column ruler number line before
    ++ at_column ruler number line (suc before) (run_to ruler line before) (first_to ruler before)

abbrev pub column_warnings : List ℕ → ℕ → List ℕ → List Warning
column_warnings ruler number line = up_to_column ruler number line (length line)
