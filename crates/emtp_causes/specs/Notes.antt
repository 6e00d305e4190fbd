-- What a note means, in words: of an early end, of a case without a steady state, of a record that differs, of a row that is refused.
use Rattle.std.specs.List.{starts_with}
use Rattle.std.specs.Prelude.{[], ◌&&◌, ◌+◌, ◌++◌, ◌==◌, ◌∷◌, Bool, List, None, Option, Some, codes, drop, if◌then◌else◌, length, map, nat_eq, position, suc, take, true, ℕ}
use Rattle.std.specs.Str.{bytes_eq}
use Rattle.emtp_card.specs.Numeral.{few_digits}
use Rattle.emtp_causes.specs.Ends.{end_text, unsolved_text}
use Rattle.emtp_causes.specs.Marked.{shown_byte}
use Rattle.emtp_causes.specs.Parts.{field_line, item_line, item_rest, number_or_one, up_to_blank}
use Rattle.emtp_causes.specs.declared.texts.TheConstants.{FIELD_END, ITS_FIELD, LONG_RECORD, LONG_TABLE, NO_ROW, OF_FILE, ROW_TOO_MANY, THIS_LINE}

-- an item of a note, from 1 on, parted by blanks; nothing where it isn't there
abbrev pub item_of : ℕ → List ℕ → List ℕ
item_of number note = up_to_blank (item_rest number true note)

-- the number that an item is
abbrev pub number_in : ℕ → List ℕ → Option ℕ
number_in number note = few_digits 9 (item_of number note)

-- ---- an early end

-- which item is the word ENDED: a command, or a trial and its number, may stand in front of it
abbrev pub ended_item : List ℕ → ℕ
ended_item note =
    if bytes_eq (item_of 1 note) (codes "ENDED") then 1
    else if bytes_eq (item_of 2 note) (codes "ENDED") then 2
    else 3

abbrev pub has_step : List ℕ → Bool
has_step note = bytes_eq (item_of (ended_item note + 1) note) (codes "STEP")

-- the number of the step; nothing of a steady state
abbrev pub step_in : List ℕ → List ℕ
step_in note = if has_step note then item_of (ended_item note + 2) note else []

-- which item is the cause
abbrev pub cause_item : List ℕ → ℕ
cause_item note = if has_step note then ended_item note + 3 else ended_item note + 1

abbrev pub behind_place : List ℕ → Option ℕ → List ℕ
behind_place text (Some at) = drop (at + 1) text
behind_place text None = []

-- what stands behind the first blank
abbrev pub behind_blank : List ℕ → List ℕ
behind_blank text = behind_place text (position (λ byte. byte == 32) text)

-- how many bytes stand in front of the counts of a run
abbrev pub name_length : List ℕ → ℕ
name_length [] = 0
name_length (byte ∷ bytes) =
    if starts_with nat_eq (byte ∷ bytes) (codes " SAMPLES ") then 0 else suc (name_length bytes)

abbrev pub name_in : List ℕ → List ℕ
name_in rest = take (name_length rest) rest

abbrev pub ended_cause : List ℕ → List ℕ
ended_cause note = item_of (cause_item note) note

-- what the note names stands behind its cause, and may have a blank itself
abbrev pub ended_name : List ℕ → List ℕ
ended_name note = name_in (behind_blank (item_rest (cause_item note) true note))

abbrev pub ended_text : List ℕ → List ℕ
ended_text note = end_text (ended_cause note) (step_in note) (ended_name note)

abbrev pub ended_step : List ℕ → Option ℕ
ended_step note = few_digits 9 (step_in note)

-- of a run, no trial and no steady state, in which a number of the network left its range
abbrev pub is_range_of_run : List ℕ → Bool
is_range_of_run note = (ended_item note == 1) && has_step note && bytes_eq (ended_cause note) (codes "RANGE")

-- ---- no steady state

abbrev pub shown_card : List ℕ → List ℕ
shown_card card = if length card == 0 then [] else map shown_byte card ++ codes "\n"

-- the word of the reason
abbrev pub unsolved_reason : List ℕ → List ℕ
unsolved_reason note = item_of 6 note

-- the card, where one is given, and why
abbrev pub unsolved_case : List ℕ → List ℕ → List ℕ
unsolved_case note card = shown_card card ++ unsolved_text (unsolved_reason note)

-- ---- records

-- the file ends before the line, whose place the end mark of a file may have
abbrev pub has_no_line : List ℕ → Bool
has_no_line note = bytes_eq (item_of 6 note) (codes "1") && bytes_eq (item_of 7 note) (codes "MISSING")

abbrev pub line_there : List ℕ → List ℕ → List ℕ
line_there note line = if has_no_line note then [] else line

unfoldable pub this_line : List ℕ → List ℕ → List ℕ → List ℕ
this_line line file field = THIS_LINE.now ++ line ++ OF_FILE.now ++ file ++ ITS_FIELD.now ++ field ++ FIELD_END.now

-- a line with a mark below the field that differs, how it does, and which line of which file it is
abbrev pub place_text : List ℕ → List ℕ → List ℕ → List ℕ
place_text note file line =
    field_line (line_there note line) (number_or_one (item_of 6 note)) (item_of 7 note)
    ++ this_line (item_of 4 note) file (item_of 6 note)

-- a file that is too long differs at line 0
abbrev pub differs_at : Option ℕ → List ℕ → List ℕ → List ℕ → List ℕ
differs_at None note file line = []
differs_at (Some number) note file line = if number == 0 then file ++ LONG_RECORD.now else place_text note file line

abbrev pub differs_text : List ℕ → List ℕ → List ℕ → List ℕ
differs_text note file line = differs_at (number_in 4 note) note file line

-- ---- tables

-- a row with a mark below the item that is refused, and why; or one more than a table has
abbrev pub refused_row : List ℕ → List ℕ → Bool → List ℕ
refused_row note row full =
    if length row == 0 then NO_ROW.now
    else if full then ROW_TOO_MANY.now
    else item_line row (number_or_one (item_of 6 note))

-- a table that is too long is refused at line 0
abbrev pub row_at : Option ℕ → List ℕ → List ℕ → Bool → List ℕ
row_at None note row full = []
row_at (Some number) note row full = if number == 0 then LONG_TABLE.now else refused_row note row full

abbrev pub row_text : List ℕ → List ℕ → Bool → List ℕ
row_text note row full = row_at (number_in 4 note) note row full
