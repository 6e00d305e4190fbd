-- The cards of devices: the fields and rules, and the card.
use Rattle.std.specs.Prelude.{ℕ, ℤ, pos, Bool, List, Option, Some, None, Result, Ok, Err, if◌then◌else◌}
use Rattle.std.specs.Ordering.{int_eq}
use Rattle.emtp_card.specs.Name.{name_field}
use Rattle.emtp_card.specs.NumberField.{number_or, required_of}
use Rattle.emtp_card.specs.Whole.{whole_field}
use Rattle.emtp_card.specs.declared.fault.Fault.{Fault}
use Rattle.emtp_card.specs.declared.reason.Bad.{Bad}
use Rattle.emtp_card.specs.declared.reason.Why.{Why}
use Rattle.emtp_card.specs.declared.reason.Why.TheVariants.{BadName, BadType}
use Rattle.emtp_case.specs.Control.{needs_d}
use Rattle.emtp_case.specs.declared.control.DeviceCode.{DeviceCode}
use Rattle.emtp_case.specs.declared.control.DeviceCode.TheVariants.{Counter, Delay, DelayedPulse, Derivative, EffectiveValue, Extreme, Gate, GateAbove, Integral, PeakHold, SampleHold, Selector, Table, Window}
use Rattle.emtp_case.specs.declared.control.Group.{Group}
use Rattle.emtp_netcards.specs.Reading.{◌>>=◌, both, card_on, in_column}
use Rattle.emtp_taccards.specs.Group.{head_of}
use Rattle.emtp_taccards.specs.Inputs.{inputs}
use Rattle.emtp_taccards.specs.declared.device_card.DeviceCard.{DeviceCard}
use Rattle.emtp_taccards.specs.declared.device_card.TheConstants.{B, C, DELAY, FREQUENCY, PLAIN}

-- columns 9 and 10: the code
abbrev pub code_of : ℤ → Result DeviceCode Why
code_of n =
    if int_eq n (pos 51) then Ok Gate
    else if int_eq n (pos 52) then Ok GateAbove
    else if int_eq n (pos 53) then Ok Delay
    else if int_eq n (pos 54) then Ok DelayedPulse
    else if int_eq n (pos 56) then Ok Table
    else if int_eq n (pos 57) then Ok Window
    else if int_eq n (pos 58) then Ok Integral
    else if int_eq n (pos 59) then Ok Derivative
    else if int_eq n (pos 60) then Ok Selector
    else if int_eq n (pos 62) then Ok SampleHold
    else if int_eq n (pos 63) then Ok Extreme
    else if int_eq n (pos 64) then Ok PeakHold
    else if int_eq n (pos 65) then Ok Counter
    else if int_eq n (pos 66) then Ok EffectiveValue
    else Err BadType

abbrev pub code_by : Result (Option ℤ) Why → Result DeviceCode Why
code_by (Ok None) = Err BadType
code_by (Ok (Some n)) = code_of n
code_by (Err why) = Err BadType

abbrev pub code_field : List ℕ → Result DeviceCode Why
code_field line = code_by (whole_field line 9 10)

-- columns 51 to 56: A, a time in seconds for both delays, a frequency in hertz for the effective value
abbrev pub delay_field : List ℕ → Result ℤ Fault
delay_field line = number_or DELAY (pos 0) line

abbrev pub hertz_field : List ℕ → Result ℤ Fault
hertz_field line = required_of FREQUENCY line

abbrev pub a_by : List ℕ → DeviceCode → Result ℤ Fault
a_by line Gate = number_or PLAIN (pos 0) line
a_by line GateAbove = number_or PLAIN (pos 0) line
a_by line Delay = delay_field line
a_by line DelayedPulse = delay_field line
a_by line Table = number_or PLAIN (pos 0) line
a_by line Window = number_or PLAIN (pos 0) line
a_by line Integral = number_or PLAIN (pos 0) line
a_by line Derivative = number_or PLAIN (pos 0) line
a_by line Selector = number_or PLAIN (pos 0) line
a_by line SampleHold = number_or PLAIN (pos 0) line
a_by line Extreme = number_or PLAIN (pos 0) line
a_by line PeakHold = number_or PLAIN (pos 0) line
a_by line Counter = number_or PLAIN (pos 0) line
a_by line EffectiveValue = hertz_field line

-- a device that looks at a variable D has one
abbrev pub d_by : DeviceCode → Option (List ℕ) → Result (Option (List ℕ)) Fault
d_by code None = if needs_d code then Err (record { column = 69; why = BadName }) else Ok None
d_by code (Some name) = Ok (Some name)

-- columns 69 to 74
abbrev pub d_field : List ℕ → DeviceCode → Result (Option (List ℕ)) Fault
d_field line code = in_column 69 (name_field line 69) >>= d_by code

-- the code with what it asks for: the number A and the variable D
abbrev pub Coded : Type 0
Coded = DeviceCode × (ℤ × Option (List ℕ))

unfoldable pub coded_by : List ℕ → DeviceCode → Result Coded Fault
coded_by line code = do
  (a, d) ← both (a_by line code) (d_field line code)
  Ok (code, (a, d))

-- the numbers B in columns 57 to 62 and C in columns 63 to 68
unfoldable pub plain_fields : List ℕ → Result (ℤ × ℤ) Fault
plain_fields line = both (number_or B (pos 0) line) (number_or C (pos 0) line)

-- the inputs, and the variable E in columns 75 to 80
abbrev pub Variables : Type 0
Variables = List (Option (Bool × List ℕ)) × Option (List ℕ)

unfoldable pub variables_of : List ℕ → Result Variables Fault
variables_of line = both (inputs line) (in_column 75 (name_field line 75))

abbrev pub device_record : ℕ → Group × List ℕ → Coded → Variables → ℤ × ℤ → DeviceCard
device_record number head coded variables plain = record {
  line = number;
  name = head.1;
  group = head.0;
  code = coded.0;
  inputs = variables.0;
  a = coded.1.0;
  b = plain.0;
  c = plain.1;
  d = coded.1.1;
  e = variables.1;
}

abbrev pub device_with : ℕ → Result (Group × List ℕ) Fault → Result Coded Fault → Result Variables Fault
    → Result (ℤ × ℤ) Fault → Result DeviceCard Fault
device_with number head coded variables plain = do
  ((head, coded), (variables, plain)) ← both (both head coded) (both variables plain)
  Ok (device_record number head coded variables plain)

-- the card; without a code, A and D aren't read
unfoldable pub fields_of : ℕ → List ℕ → Result DeviceCard Fault
fields_of number line =
    device_with number (head_of line) (in_column 9 (code_field line) >>= coded_by line) (variables_of line)
    (plain_fields line)

unfoldable pub device_card : ℕ → List ℕ → Result DeviceCard Bad
device_card number line = card_on number line (fields_of number line)
