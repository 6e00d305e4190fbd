-- Why words are no command of `emtp`.
use Rattle.std.specs.List.{starts_with}
use Rattle.std.specs.Prelude.{[], ◌++◌, ◌-◌, ◌/◌, ◌==◌, ◌||◌, ◌∷◌, Bool, List, None, Option, Some, codes, if◌then◌else◌, length, max, nat_eq, nat_le, nat_lt, ℕ}
use Rattle.std.specs.Str.{bytes_eq}
use Rattle.emtp_card.specs.Numeral.{few_digits}
use Rattle.emtp_causes.specs.declared.texts.TheConstants.{AND_HERE, BATCH_FORM, BEGINS_WITH_DASH, BEHIND, CASE_FORM, DOES, EMPTY_NAME, FALLING_SCAN, IS_NOT, LONG_SCAN, MORE_WORDS, NOTHING, NO_COMMAND, NO_COMMAND_NAMED, NO_FREQUENCY, RECORD_FORM, SCAN_FORM, STANDS, STANDS_TWICE, TRIAL_FORM, TRIAL_NUMBER}

-- a word between two texts
unfoldable pub between : List ℕ → List ℕ → List ℕ → List ℕ
between front word back = front ++ word ++ back

-- ---- the number of words

-- the words that stand behind a command; nothing of a word that is none
abbrev pub form_of : List ℕ → List ℕ
form_of command =
    if bytes_eq command (codes "run") || bytes_eq command (codes "audit") then RECORD_FORM.now
    else if bytes_eq command (codes "show") || bytes_eq command (codes "phasor") then CASE_FORM.now
    else if bytes_eq command (codes "batch") then BATCH_FORM.now
    else if bytes_eq command (codes "scan") then SCAN_FORM.now
    else if bytes_eq command (codes "trial") then TRIAL_FORM.now
    else []

abbrev pub unknown_line : List ℕ → List ℕ
unknown_line command = between NO_COMMAND_NAMED.now command (codes ".\n")

unfoldable pub count_line : List ℕ → List ℕ → List ℕ → List ℕ
count_line command form given =
    BEHIND.now ++ command ++ STANDS.now ++ form ++ AND_HERE.now ++ given ++ codes ".\n"

abbrev pub other_count : List ℕ → List ℕ → List ℕ
other_count command given =
    if length (form_of command) == 0 then unknown_line command else count_line command (form_of command) given

-- ---- names of files

abbrev pub is_odd_name : List ℕ → Bool
is_odd_name name = length name == 0 || starts_with nat_eq name (codes "-")

unfoldable pub dash_line : List ℕ → List ℕ
dash_line name = name ++ BEGINS_WITH_DASH.now ++ name ++ DOES.now

abbrev pub name_text : List ℕ → List ℕ
name_text name =
    if length name == 0 then EMPTY_NAME.now else if is_odd_name name then dash_line name else []

abbrev pub twice_line : List ℕ → List ℕ
twice_line name = between [] name STANDS_TWICE.now

abbrev pub names_text : List ℕ → List ℕ → List ℕ
names_text a b = if is_odd_name a then name_text a else if bytes_eq a b then twice_line a else name_text b

abbrev pub files_text : List ℕ → List ℕ → List ℕ → List ℕ
files_text a b c = if is_odd_name a then name_text a else if bytes_eq a b || bytes_eq a c then twice_line a else names_text b c

-- ---- numbers

abbrev pub at_most : Option ℕ → ℕ → Option ℕ
at_most None most = None
at_most (Some number) most = if nat_le number most then Some number else None

-- a whole number from 1 on, without a leading 0
abbrev pub number_of : List ℕ → ℕ → Option ℕ
number_of word most = if starts_with nat_eq word (codes "0") then None else at_most (few_digits 8 word) most

abbrev pub trial_line : List ℕ → List ℕ
trial_line word = between TRIAL_NUMBER.now word IS_NOT.now

abbrev pub trial_by : List ℕ → Option ℕ → List ℕ
trial_by word (Some number) = []
trial_by word None = trial_line word

abbrev pub trial_text : List ℕ → List ℕ
trial_text word = trial_by word (number_of word 900)

abbrev pub hertz_line : List ℕ → List ℕ
hertz_line word = between [] word NO_FREQUENCY.now

-- nothing of good numbers
abbrev pub range_fault : ℕ → ℕ → ℕ → List ℕ
range_fault low high step =
    if nat_lt high low then FALLING_SCAN.now
    else if nat_le 10000 ((high - low) / max step 1) then LONG_SCAN.now
    else []

abbrev pub step_by : ℕ → ℕ → List ℕ → Option ℕ → List ℕ
step_by low high by (Some step) = range_fault low high step
step_by low high by None = hertz_line by

abbrev pub by_text : ℕ → ℕ → List ℕ → List ℕ
by_text low high by = step_by low high by (number_of by 10000000)

abbrev pub last_by : ℕ → List ℕ → List ℕ → Option ℕ → List ℕ
last_by low last by (Some high) = by_text low high by
last_by low last by None = hertz_line last

abbrev pub last_text : ℕ → List ℕ → List ℕ → List ℕ
last_text low last by = last_by low last by (number_of last 10000000)

abbrev pub first_by : List ℕ → List ℕ → List ℕ → Option ℕ → List ℕ
first_by first last by (Some low) = last_text low last by
first_by first last by None = hertz_line first

abbrev pub first_text : List ℕ → List ℕ → List ℕ → List ℕ
first_text first last by = first_by first last by (number_of first 10000000)

abbrev pub frequencies_text : List ℕ → List ℕ → List ℕ → List ℕ → List ℕ
frequencies_text case first last by = if is_odd_name case then name_text case else first_text first last by

-- ---- all words

abbrev pub one_text : List ℕ → List ℕ → List ℕ
one_text command word =
    if bytes_eq command (codes "trial") then trial_text word
    else if bytes_eq command (codes "show") || bytes_eq command (codes "phasor") then name_text word
    else other_count command (codes "1")

abbrev pub two_text : List ℕ → List ℕ → List ℕ → List ℕ
two_text command a b = if bytes_eq command (codes "batch") then names_text a b else other_count command (codes "2")

abbrev pub three_text : List ℕ → List ℕ → List ℕ → List ℕ → List ℕ
three_text command a b c =
    if bytes_eq command (codes "run") || bytes_eq command (codes "audit") then files_text a b c
    else other_count command (codes "3")

abbrev pub scan_text : List ℕ → List ℕ → List ℕ → List ℕ → List ℕ → List ℕ
scan_text command case first last by =
    if bytes_eq command (codes "scan") then frequencies_text case first last by else other_count command (codes "4")

abbrev pub misfit_text : List (List ℕ) → List ℕ
misfit_text [] = NO_COMMAND.now
misfit_text (command ∷ []) = other_count command NOTHING.now
misfit_text (command ∷ a ∷ []) = one_text command a
misfit_text (command ∷ a ∷ b ∷ []) = two_text command a b
misfit_text (command ∷ a ∷ b ∷ c ∷ []) = three_text command a b c
misfit_text (command ∷ a ∷ b ∷ c ∷ d ∷ []) = scan_text command a b c d
misfit_text (command ∷ a ∷ b ∷ c ∷ d ∷ e ∷ more) = MORE_WORDS.now
