-- An item of a table's row, or a field of a record's line, with a mark below it and the cause for which it is refused.
use Rattle.std.specs.Prelude.{[], ◌%◌, ◌&&◌, ◌+◌, ◌++◌, ◌-◌, ◌==◌, ◌||◌, ◌∷◌, Bool, List, None, Option, Some, codes, if◌then◌else◌, length, min, nat_le, neg_ℤ, not, pos, position, take, true, ℕ}
use Rattle.std.specs.Result.{is_ok}
use Rattle.std.specs.Str.{bytes_eq}
use Rattle.emtp_card.specs.Lines.{is_blank}
use Rattle.emtp_card.specs.Number.{held_number}
use Rattle.emtp_card.specs.Numeral.{few_digits}
use Rattle.emtp_causes.specs.Marked.{mark, shown_line}
use Rattle.emtp_fix.specs.declared.limit.TheConstants.{LARGEST_TIME}
use Rattle.emtp_causes.specs.declared.texts.TheConstants.{CLOSING_TIME, EXTRA_FIELD, EXTRA_ITEM, EXTRA_LINE, MISSING_FIELD, MISSING_ITEM, MISSING_LINE, NO_FIELD_NUMBER, NO_TIME, WRONG_FIELD}

-- the column in which the rest of a line begins; a column behind it where nothing is left
abbrev pub column_of : ℕ → ℕ → ℕ
column_of len left = if left == 0 then min len 1000000 + 2 else min (len - left) 1000000 + 1

unfoldable pub marked_part : List ℕ → ℕ → List ℕ → List ℕ
marked_part line column words = shown_line line column ++ mark column ++ words ++ codes "\n"

abbrev pub or_one : Option ℕ → ℕ
or_one (Some number) = number
or_one None = 1

-- the number of an item or a field, from 1
abbrev pub number_or_one : List ℕ → ℕ
number_or_one text = or_one (few_digits 9 text)

-- ---- items, parted by blanks

abbrev pub begins_here : Bool → ℕ → Bool
begins_here blank byte = blank && not (byte == 32)

abbrev pub left_behind : Bool → ℕ → ℕ
left_behind begins left = if begins then left - 1 else left

-- what is left of a row from an item on, behind a blank or not; nothing where it isn't there
abbrev pub item_rest : ℕ → Bool → List ℕ → List ℕ
item_rest left blank [] = []
item_rest left blank (byte ∷ bytes) =
    if begins_here blank byte && nat_le left 1 then byte ∷ bytes
    else item_rest (left_behind (begins_here blank byte) left) (byte == 32) bytes

abbrev pub cut_at : List ℕ → Option ℕ → List ℕ
cut_at text (Some at) = take at text
cut_at text None = text

abbrev pub up_to_blank : List ℕ → List ℕ
up_to_blank text = cut_at text (position (λ byte. byte == 32) text)

-- a number of seconds
abbrev pub is_time : List ℕ → Bool
is_time item = is_ok (held_number item (pos 12) (neg_ℤ (pos LARGEST_TIME)) (pos LARGEST_TIME))

abbrev pub odd_cause : List ℕ → List ℕ
odd_cause item =
    if bytes_eq item (codes "-") || bytes_eq item (codes "*") || is_time item then
    EXTRA_ITEM.now
    else NO_TIME.now

-- closing times have the odd numbers
abbrev pub item_cause : List ℕ → ℕ → List ℕ
item_cause item number =
    if length item == 0 then MISSING_ITEM.now
    else if bytes_eq item (codes "-") && number % 2 == 1
    then CLOSING_TIME.now
    else odd_cause item

abbrev pub item_line : List ℕ → ℕ → List ℕ
item_line row number =
    marked_part row (column_of (length row) (length (item_rest number true row)))
    (item_cause (up_to_blank (item_rest number true row)) number)

-- ---- fields, parted by commas

abbrev pub one_less : Bool → ℕ → ℕ
one_less comma left = if comma then left - 1 else left

abbrev pub field_rest : ℕ → List ℕ → List ℕ
field_rest left [] = []
field_rest left (byte ∷ bytes) = if nat_le left 1 then byte ∷ bytes else field_rest (one_less (byte == 44) left) bytes

abbrev pub skipped : List ℕ → List ℕ
skipped [] = []
skipped (byte ∷ bytes) = if is_blank byte then skipped bytes else byte ∷ bytes

abbrev pub difference : List ℕ → List ℕ
difference cause =
    if bytes_eq cause (codes "WRONG") then WRONG_FIELD.now
    else NO_FIELD_NUMBER.now

abbrev pub field_cause : List ℕ → ℕ → List ℕ
field_cause cause number =
    if bytes_eq cause (codes "MISSING") then if number == 1 then MISSING_LINE.now
    else MISSING_FIELD.now
    else if bytes_eq cause (codes "EXTRA") then if number == 1 then EXTRA_LINE.now else EXTRA_FIELD.now
    else difference cause

abbrev pub field_line : List ℕ → ℕ → List ℕ → List ℕ
field_line line number cause =
    marked_part line (column_of (length line) (length (skipped (field_rest number line)))) (field_cause cause number)
