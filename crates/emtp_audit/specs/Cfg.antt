-- What the lines of the configuration have to be.
use Rattle.std.specs.Prelude.{ℕ, ◌+◌, ◌-◌, ◌==◌, max, ℤ, pos, int_lt, unsigned_abs, true, false, ◌&&◌, ◌||◌, List, [], ◌∷◌, ◌++◌, length, map, take, replicate, slice_index_or, codes, Option, Some, None, unwrap_or, if◌then◌else◌}
use Rattle.std.specs.Char.{to_ascii_lowercase, to_ascii_uppercase}
use Rattle.std.specs.Ordering.{int_eq}
use Rattle.std.specs.Str.{bytes_eq}
use Rattle.emtp_case.specs.ChannelName.{name_of_channel}
use Rattle.emtp_case.specs.declared.case.Parts.{Parts}
use Rattle.emtp_comtrade.specs.Record.{is_status_at, analog_before, status_before, unit_at}
use Rattle.emtp_audit.specs.Numbers.{whole_of, decimal_in}
use Rattle.emtp_comtrade.specs.Record.{joined}
use Rattle.emtp_audit.specs.Rules.{Rule, LineRule, Anything, Fields, any_field, text_is, unless_wrong, judged_number, number_is, file_differs, audited_lines, comma_fields}
use Rattle.emtp_audit.specs.Dat.{Scales, scales_of}
use Rattle.emtp_audit.specs.declared.differs.DifferCause.{DifferCause}
use Rattle.emtp_audit.specs.declared.differs.Differs.{Differs}
use Rattle.emtp_audit.specs.declared.scale.Scale.{Scale}
use Rattle.emtp_audit.specs.declared.limit.TheConstants.{LARGEST_SCALE, LARGEST_UNIT}

-- ---- fields

-- a text in capital or small letters
abbrev pub letters_are : List ℕ → Rule
letters_are text field = unless_wrong (bytes_eq (map to_ascii_lowercase field) (map to_ascii_lowercase text))

-- a number that is read and not compared
abbrev pub is_read : Option ℤ → Option DifferCause
is_read number = judged_number number (λ _. true)

-- a number, and then a letter, in either case
abbrev pub counts : ℕ → ℕ → Rule
counts letter number field =
    judged_number (whole_of (take (length field - 1) field))
    (λ x. int_eq x (pos number) && (to_ascii_uppercase (slice_index_or field (length field - 1) 0) == letter))

abbrev pub from_to : ℤ → ℤ → Option ℤ → Option ℤ
from_to low high None = None
from_to low high (Some number) = if int_lt number low || int_lt high number then None else Some number

-- a or b of a scale, in 1e-18
abbrev pub scale_number : List ℕ → Option ℤ
scale_number field = decimal_in (pos 18) (pos LARGEST_SCALE) field

-- how many sampling rates
abbrev pub rates_number : List ℕ → Option ℤ
rates_number field = from_to (pos 0) (pos 10) (whole_of field)

-- the unit of time stamps, in ps; the file gives it in microseconds
abbrev pub unit_number : List ℕ → Option ℤ
unit_number field = from_to (pos 1) (pos LARGEST_UNIT) (decimal_in (pos 6) (pos LARGEST_UNIT) field)

-- ---- lines

-- the number, the name and the unit of an analog channel, and between them two texts
abbrev pub identity_rules : ℕ → List ℕ → List ℕ → List Rule
identity_rules number name unit = number_is (pos number) ∷ text_is name ∷ any_field ∷ any_field ∷ text_is unit ∷ []

abbrev pub scale_rule : Rule
scale_rule field = is_read (scale_number field)

-- the line of an analog channel: behind its scale stand six fields
abbrev pub named_rule : ℕ → List ℕ → List ℕ → LineRule
named_rule number name unit = Fields (identity_rules number name unit ++ (scale_rule ∷ scale_rule ∷ replicate 6 any_field))

-- that of the channel at a place
abbrev pub analog_rule : Parts → ℕ → LineRule
analog_rule p place = named_rule (analog_before p place + 1) (name_of_channel p place) (unit_at p place)

abbrev pub status_rule : Parts → ℕ → LineRule
status_rule p place =
    Fields (number_is (pos (status_before p place + 1)) ∷ text_is (name_of_channel p place) ∷ replicate 3 any_field)

abbrev pub analog_rule_at : Parts → ℕ → List LineRule
analog_rule_at p place = if is_status_at p place then [] else analog_rule p place ∷ []

abbrev pub status_rule_at : Parts → ℕ → List LineRule
status_rule_at p place = if is_status_at p place then status_rule p place ∷ [] else []

-- the numbers of all channels, of analog ones and of status ones
abbrev pub numbers_rule : Parts → LineRule
numbers_rule p =
    Fields (number_is (pos (length p.channels)) ∷ counts 65 (analog_before p (length p.channels))
    ∷ counts 68 (status_before p (length p.channels)) ∷ [])

-- the station and the numbers of channels
abbrev pub head_rules : Parts → List LineRule
head_rules p = Fields (any_field ∷ any_field ∷ text_is (codes "1999") ∷ []) ∷ numbers_rule p ∷ []

-- the number of sampling rates
abbrev pub rates_rule : LineRule
rates_rule = Fields ((λ field. is_read (rates_number field)) ∷ [])

-- a sampling rate, and up to which sample
abbrev pub rate_rule : LineRule
rate_rule = Fields (any_field ∷ (λ field. is_read (whole_of field)) ∷ [])

-- a line for each sampling rate, and one for none: on the last stands the number of samples
abbrev pub rate_rules : ℕ → ℕ → List LineRule
rate_rules rates count = joined (rates - 1) (λ rate. rate_rule ∷ []) ++ Fields (any_field ∷ number_is (pos count) ∷ []) ∷ []

-- the line frequency, and the sampling rates
abbrev pub middle_rules : ℕ → ℕ → List LineRule
middle_rules count rates = Anything ∷ rates_rule ∷ rate_rules rates count

-- the file's type
abbrev pub type_rule : LineRule
type_rule = Fields (letters_are (codes "ASCII") ∷ [])

-- both dates, and the file's type
abbrev pub date_rules : List LineRule
date_rules = Anything ∷ Anything ∷ type_rule ∷ []

-- the unit of time stamps
abbrev pub unit_rule : LineRule
unit_rule = Fields ((λ field. is_read (unit_number field)) ∷ [])

abbrev pub end_rules : List LineRule
end_rules = date_rules ++ unit_rule ∷ []

abbrev pub cfg_rules : Parts → ℕ → ℕ → List LineRule
cfg_rules p count rates =
    head_rules p ++ (joined (length p.channels) (analog_rule_at p) ++ (joined (length p.channels) (status_rule_at p)
    ++ (middle_rules count rates ++ end_rules)))

-- ---- what is read

-- a line, from 0
abbrev pub file_line : List (List ℕ) → ℕ → List ℕ
file_line lines line = slice_index_or lines line []

-- a field of a line, from 0
abbrev pub field_on : List ℕ → ℕ → List ℕ
field_on line field = slice_index_or (comma_fields line) field []

-- the scale that a line tells
unfoldable pub scale_on : List ℕ → Scale
scale_on line = record {
  a = unwrap_or (scale_number (field_on line 5)) (pos 0);
  b = unwrap_or (scale_number (field_on line 6)) (pos 0);
}

-- how many sampling rates a line tells
unfoldable pub rates_on : List ℕ → ℕ
rates_on line = unsigned_abs (unwrap_or (rates_number (field_on line 0)) (pos 0))

-- the unit of time stamps that a line tells
unfoldable pub unit_on : List ℕ → ℤ
unit_on line = unwrap_or (unit_number (field_on line 0)) (pos 0)

-- how many sampling rates a configuration tells
abbrev pub rates_in : Parts → List (List ℕ) → ℕ
rates_in p lines = rates_on (file_line lines (length p.channels + 3))

-- the unit of time stamps of a configuration
abbrev pub unit_in : Parts → List (List ℕ) → ℤ
unit_in p lines = unit_on (file_line lines (length p.channels + 7 + max (rates_in p lines) 1))

-- the scales of the analog channels of a configuration, behind its head
abbrev pub analog_scales : Parts → List (List ℕ) → List Scale
analog_scales p lines = joined (analog_before p (length p.channels)) (λ number. scale_on (file_line lines (2 + number)) ∷ [])

-- what a configuration says of the data
unfoldable pub scales_in : Parts → List ℕ → Scales
scales_in p bytes = scales_of (analog_scales p (audited_lines bytes)) (unit_in p (audited_lines bytes))

-- the first difference of the configuration of so many samples
unfoldable pub cfg_differs : Parts → ℕ → List ℕ → Option Differs
cfg_differs p count bytes = file_differs false (cfg_rules p count (rates_in p (audited_lines bytes))) bytes
