-- Source cards of the control: the fields, and the card. Fields that they share with the network's sources are those of
-- emtp_netcards.
use Rattle.std.specs.Prelude.{ℕ, ℤ, pos, false, List, Option, Some, None, Result, Ok, Err, if◌then◌else◌}
use Rattle.std.specs.Ordering.{int_eq}
use Rattle.emtp_card.specs.Name.{name_field}
use Rattle.emtp_card.specs.NumberField.{required_of}
use Rattle.emtp_card.specs.Whole.{whole_field}
use Rattle.emtp_card.specs.declared.fault.Fault.{Fault}
use Rattle.emtp_card.specs.declared.reason.Bad.{Bad}
use Rattle.emtp_card.specs.declared.reason.Why.{Why}
use Rattle.emtp_card.specs.declared.reason.Why.TheVariants.{BadType}
use Rattle.emtp_case.specs.declared.source.Shape.{Shape}
use Rattle.emtp_case.specs.declared.source.Shape.TheVariants.{Cosine, NodeVoltage, Pulse, Saw, Step, SwitchCurrent, SwitchStatus}
use Rattle.emtp_netcards.specs.Fields.{needed}
use Rattle.emtp_netcards.specs.Reading.{◌>>=◌, both, card_on, in_column}
use Rattle.emtp_netcards.specs.SourceCard.{active_times, amplitude_field, cosine_numbers}
use Rattle.emtp_netcards.specs.declared.source_card.SourceCard.{SourceCard}
use Rattle.emtp_taccards.specs.declared.tacs_source_card.Signal.{Signal}
use Rattle.emtp_taccards.specs.declared.tacs_source_card.TheConstants.{PERIOD, WIDTH}
use Rattle.emtp_taccards.specs.declared.tacs_source_card.Signal.TheVariants.{Cosine as CosineSignal, Level, NodeVoltage as OfNode, Pulse as PulseSignal, Saw as SawSignal, SwitchCurrent as OfSwitch, SwitchStatus as StatusOfSwitch}

-- columns 1 and 2: the type
abbrev pub signal_of : ℤ → Result Signal Why
signal_of n =
    if int_eq n (pos 11) then Ok Level
    else if int_eq n (pos 14) then Ok CosineSignal
    else if int_eq n (pos 23) then Ok PulseSignal
    else if int_eq n (pos 24) then Ok SawSignal
    else if int_eq n (pos 90) then Ok OfNode
    else if int_eq n (pos 91) then Ok OfSwitch
    else if int_eq n (pos 93) then Ok StatusOfSwitch
    else Err BadType

abbrev pub signal_by : Result (Option ℤ) Why → Result Signal Why
signal_by (Ok None) = Err BadType
signal_by (Ok (Some n)) = signal_of n
signal_by (Err why) = Err BadType

abbrev pub signal_field : List ℕ → Result Signal Why
signal_field line = signal_by (whole_field line 1 2)

-- the period and the width of a pulse in seconds
abbrev pub period_field : List ℕ → Result ℤ Fault
period_field line = required_of PERIOD line

abbrev pub width_field : List ℕ → Result ℤ Fault
width_field line = required_of WIDTH line

-- the course in time and the amplitude
abbrev pub Course : Type 0
Course = Shape × ℤ

-- from when to when a source is active
abbrev pub Times : Type 0
Times = ℤ × Option ℤ

unfoldable pub level_of : List ℕ → Result Course Fault
level_of line = do
  amplitude ← amplitude_field line
  Ok (Step, amplitude)

unfoldable pub cosine_of : List ℕ → Result Course Fault
cosine_of line = do
  (amplitude, (freq, phase)) ← both (amplitude_field line) (cosine_numbers line)
  Ok (Cosine freq phase, amplitude)

unfoldable pub pulse_of : List ℕ → Result Course Fault
pulse_of line = do
  (amplitude, (period, width)) ← both (amplitude_field line) (both (period_field line) (width_field line))
  Ok (Pulse period width, amplitude)

unfoldable pub saw_of : List ℕ → Result Course Fault
saw_of line = do
  (amplitude, period) ← both (amplitude_field line) (period_field line)
  Ok (Saw period, amplitude)

-- a source whose value the card gives
abbrev pub driven : List ℕ → Result Course Fault → Result (Course × Times) Fault
driven line course = both course (active_times line)

-- a source whose value a node or a switch gives: the card has no other fields
abbrev pub measured : Shape → Result (Course × Times) Fault
measured shape = Ok ((shape, pos 0), (pos 0, None))

-- what a type asks for; 0 stands for a node or a switch whose name isn't resolved
abbrev pub value_of : List ℕ → Signal → Result (Course × Times) Fault
value_of line Level = driven line (level_of line)
value_of line CosineSignal = driven line (cosine_of line)
value_of line PulseSignal = driven line (pulse_of line)
value_of line SawSignal = driven line (saw_of line)
value_of line OfNode = measured (NodeVoltage 0)
value_of line OfSwitch = measured (SwitchCurrent 0)
value_of line StatusOfSwitch = measured (SwitchStatus 0)

abbrev pub source_record : ℕ → List ℕ → Course → Times → SourceCard
source_record number name course times = record {
  line = number;
  name = name;
  current = false;
  shape = course.0;
  amplitude = course.1;
  start = times.0;
  stop = times.1;
}

abbrev pub source_with : ℕ → Result (List ℕ) Fault → Result (Course × Times) Fault → Result SourceCard Fault
source_with number name signal = do
  (name, (course, times)) ← both name signal
  Ok (source_record number name course times)

-- the card
unfoldable pub fields_of : ℕ → List ℕ → Result SourceCard Fault
fields_of number line =
    source_with number (in_column 3 (needed (name_field line 3))) (in_column 1 (signal_field line) >>= value_of line)

unfoldable pub tacs_source_card : ℕ → List ℕ → Result SourceCard Bad
tacs_source_card number line = card_on number line (fields_of number line)
