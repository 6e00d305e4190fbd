-- What the number of a field is: its unit, its range, and its value as it is read.
use Rattle.std.specs.Prelude.{[], ◌&&◌, ◌++◌, ◌||◌, Bool, Err, List, None, Ok, Option, Result, Some, codes, false, if◌then◌else◌, int_lt, pos, true, unsigned_abs, ℕ, ℤ}
use Rattle.std.specs.Ordering.{int_eq}
use Rattle.emtp_card.specs.Number.{held_field, number_field}
use Rattle.emtp_card.specs.Whole.{whole_field}
use Rattle.emtp_card.specs.declared.number_field.NumberField.{NumberField}
use Rattle.emtp_card.specs.declared.reason.Why.{Why}
use Rattle.emtp_fix.specs.Decimal.{fixed_text}
use Rattle.emtp_fields.specs.declared.measure.Blank.{Blank}
use Rattle.emtp_fields.specs.declared.measure.Blank.TheVariants.{Never, Nothing, One, Open, Zero}
use Rattle.emtp_fields.specs.declared.measure.Measure.{Measure}
use Rattle.emtp_fields.specs.declared.measure.Reading.{Reading}
use Rattle.emtp_fields.specs.declared.measure.Reading.TheVariants.{Held, Number, Whole}
use Rattle.emtp_fields.specs.declared.measure.Unit.{Unit}
use Rattle.emtp_fields.specs.declared.measure.Unit.TheVariants as units
use Rattle.emtp_fields.specs.declared.measure.TheConstants.{AMPERE, DEGREE, HELD, HERTZ, MICROFARAD, MILLIHENRY, NEVER, OHM, ONE, PLAIN, SECOND, TO, VOLT, WEBER, WHOLE, ZERO}

abbrev pub measure_with : NumberField → Unit → Blank → Reading → Measure
measure_with field unit blank reading = record { field = field; unit = unit; blank = blank; reading = reading }

abbrev pub unit_text : Unit → List ℕ
unit_text units.Ohm = OHM.now
unit_text units.Millihenry = MILLIHENRY.now
unit_text units.Microfarad = MICROFARAD.now
unit_text units.Second = SECOND.now
unit_text units.Volt = VOLT.now
unit_text units.Ampere = AMPERE.now
unit_text units.Weber = WEBER.now
unit_text units.Hertz = HERTZ.now
unit_text units.Degree = DEGREE.now
unit_text units.Plain = PLAIN.now
unit_text units.Whole = WHOLE.now

-- how many digits behind the point are kept
abbrev pub places : Measure → ℕ
places m = unsigned_abs m.field.scale

abbrev pub held_text : Reading → List ℕ
held_text Held = HELD.now
held_text Number = PLAIN.now
held_text Whole = PLAIN.now

unfoldable pub span_text : Measure → List ℕ
span_text m = fixed_text m.field.low (places m) ++ TO.now ++ fixed_text m.field.high (places m) ++ held_text m.reading

-- its range; a number that has no other stands alone
abbrev pub measured_range : Measure → List ℕ
measured_range m = if int_eq m.field.low m.field.high then fixed_text m.field.low (places m) else span_text m

-- what the card's reader reads of its columns
abbrev pub read_by : Reading → NumberField → List ℕ → Result (Option ℤ) Why
read_by Number f line = number_field line f.first f.last f.scale f.low f.high
read_by Held f line = held_field line f.first f.last f.scale f.low f.high
read_by Whole f line = whole_field line f.first f.last

abbrev pub measured_blank : Blank → List ℕ
measured_blank Nothing = PLAIN.now
measured_blank Zero = ZERO.now
measured_blank One = ONE.now
measured_blank Never = NEVER.now
measured_blank Open = NEVER.now

-- a 0 is read as a blank field
abbrev pub stands_for_zero : Blank → Bool
stands_for_zero Nothing = false
stands_for_zero Zero = false
stands_for_zero One = true
stands_for_zero Never = true
stands_for_zero Open = false

abbrev pub is_out : NumberField → ℤ → Bool
is_out f value = int_lt value f.low || int_lt f.high value

abbrev pub measured_number : Measure → ℤ → List ℕ
measured_number m value =
    if is_out m.field value then []
    else if int_eq value (pos 0) && stands_for_zero m.blank then measured_blank m.blank
    else fixed_text value (places m)

-- its value as it is read; nothing of what is refused
abbrev pub value_by : Measure → Result (Option ℤ) Why → List ℕ
value_by m (Ok None) = measured_blank m.blank
value_by m (Ok (Some value)) = measured_number m value
value_by m (Err why) = []

abbrev pub measured_value : List ℕ → Measure → List ℕ
measured_value line m = value_by m (read_by m.reading m.field line)

unfoldable pub measured_text : List ℕ → Measure → List ℕ
measured_text line m = unit_text m.unit ++ codes "\t" ++ measured_range m ++ codes "\t" ++ measured_value line m
