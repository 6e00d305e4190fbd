-- What the lines of the data have to be.
use Rattle.std.specs.Prelude.{ℕ, ◌+◌, ◌^◌, ◌==◌, nat_le, ℤ, pos, ◌+ℤ◌, ◌-ℤ◌, ◌*ℤ◌, unsigned_abs, Bool, true, ◌||◌, List, [], ◌∷◌, ◌++◌, length, slice_index_or, codes, Option, Some, unwrap_or, if◌then◌else◌}
use Rattle.std.specs.Str.{bytes_eq}
use Rattle.emtp_case.specs.declared.case.Parts.{Parts}
use Rattle.emtp_comtrade.specs.Record.{joined, is_status_at, analog_before, sample_time}
use Rattle.emtp_machine.specs.Samples.{value_at}
use Rattle.emtp_audit.specs.Numbers.{whole_of, stamp_of}
use Rattle.emtp_audit.specs.Rules.{Rule, LineRule, Fields, judged_number, unless_wrong, number_is, file_differs, audited_lines, comma_fields}
use Rattle.emtp_audit.specs.declared.differs.DifferCause.TheVariants.{NotNumber}
use Rattle.emtp_audit.specs.declared.differs.Differs.{Differs}
use Rattle.emtp_audit.specs.declared.scale.Scale.{Scale}

-- what the configuration says: the scale of each analog channel, by its number from 0, and the unit of time stamps in ps
pub record Scales : Type 0 where
  pub scale : ℕ → Scale
  pub unit : ℤ

-- a raw value stands for a value, given in 1e-9, to within one step of the raw value
abbrev pub stands_for : Scale → ℤ → ℤ → Bool
stands_for scale value raw = nat_le (unsigned_abs ((scale.a *ℤ raw +ℤ scale.b) -ℤ value *ℤ pos (10 ^ 9))) (unsigned_abs scale.a)

abbrev pub raw_is : Scale → ℤ → Rule
raw_is scale value field = judged_number (whole_of field) (stands_for scale value)

-- a stamp tells so many steps since the first stamp, to within one unit
abbrev pub is_time : ℤ → ℤ → ℤ → ℕ → ℤ → Bool
is_time step unit first steps stamp = nat_le (unsigned_abs ((stamp -ℤ first) *ℤ unit -ℤ pos steps *ℤ step)) (unsigned_abs unit)

abbrev pub stamp_is : ℤ → ℤ → ℤ → ℕ → Rule
stamp_is step unit first steps field = judged_number (stamp_of field) (is_time step unit first steps)

abbrev pub state_text : ℤ → List ℕ
state_text value = if unsigned_abs value == 0 then codes "0" else codes "1"

-- a state: the one byte `0` or `1`
abbrev pub state_is : ℤ → Rule
state_is value field =
    if bytes_eq field (codes "0") || bytes_eq field (codes "1") then unless_wrong (bytes_eq field (state_text value))
    else Some NotNumber

-- the rule of the channel at a place, where it is an analog one, and where it is a status
abbrev pub raw_rule_at : Parts → List (List ℤ) → Scales → ℕ → ℕ → List Rule
raw_rule_at p rows scales sample place =
    if is_status_at p place then [] else raw_is (scales.scale (analog_before p place)) (value_at rows sample place) ∷ []

abbrev pub state_rule_at : Parts → List (List ℤ) → ℕ → ℕ → List Rule
state_rule_at p rows sample place = if is_status_at p place then state_is (value_at rows sample place) ∷ [] else []

-- the line of a sample, from 0
abbrev pub dat_rule : Parts → List (List ℤ) → Scales → ℤ → ℕ → LineRule
dat_rule p rows scales first sample =
    Fields (number_is (pos (sample + 1)) ∷ stamp_is (sample_time p) scales.unit first sample
    ∷ (joined (length p.channels) (raw_rule_at p rows scales sample) ++ joined (length p.channels) (state_rule_at p rows sample)))

abbrev pub dat_rules : Parts → List (List ℤ) → Scales → ℤ → List LineRule
dat_rules p rows scales first = joined (length rows) (λ sample. dat_rule p rows scales first sample ∷ [])

-- the stamp in the first line of the data
unfoldable pub first_stamp : List ℕ → ℤ
first_stamp bytes = unwrap_or (stamp_of (slice_index_or (comma_fields (slice_index_or (audited_lines bytes) 0 [])) 1 [])) (pos 0)

-- the first difference of the data
unfoldable pub dat_differs : Parts → List (List ℤ) → Scales → List ℕ → Option Differs
dat_differs p rows scales bytes = file_differs true (dat_rules p rows scales (first_stamp bytes)) bytes

-- what a configuration that was read says: the scales in order, and the unit
abbrev pub scales_of : List Scale → ℤ → Scales
scales_of scales unit = record { scale = λ number. slice_index_or scales number (record { a = pos 0; b = pos 0 }); unit = unit }
