-- Time switches, and the times that a table gives them.
use Rattle.emtp_case.specs.declared.switch.Switch.{Switch}
use Rattle.emtp_case.specs.declared.switch.SwitchKind.{SwitchKind}
use Rattle.emtp_case.specs.declared.switch.SwitchKind.TheVariants.{Control, Measuring, Time, Valve}
use Rattle.emtp_case.specs.declared.switch.Times.{Times}
use Rattle.std.specs.List.{filter_map}
use Rattle.std.specs.Prelude.{◌∷◌, if◌then◌else◌, [], Bool, List, None, Option, Some, false, true}

abbrev pub is_time_kind : SwitchKind → Bool
is_time_kind (Time close open_at margin) = true
is_time_kind Measuring = false
is_time_kind (Valve ignition holding control) = false
is_time_kind (Control control) = false

abbrev pub is_time_switch : Switch → Bool
is_time_switch s = is_time_kind s.kind

-- the times of a time switch
abbrev pub times_of_kind : SwitchKind → Option Times
times_of_kind (Time close open_at margin) = Some (record { close = close; open_at = open_at })
times_of_kind Measuring = None
times_of_kind (Valve ignition holding control) = None
times_of_kind (Control control) = None

abbrev pub own_times : Switch → Option Times
own_times s = times_of_kind s.kind

-- the times of the time switches, in card order
abbrev pub card_times : List Switch → List Times
card_times ss = filter_map own_times ss

-- a time switch with other times
abbrev pub kind_with : SwitchKind → Times → SwitchKind
kind_with (Time close open_at margin) t = Time t.close t.open_at margin
kind_with Measuring t = Measuring
kind_with (Valve ignition holding control) t = Valve ignition holding control
kind_with (Control control) t = Control control

abbrev pub switch_with : Switch → Times → Switch
switch_with s t = record s { kind = kind_with s.kind t }

-- the switches, where each time switch has the times of its place among them
abbrev pub with_times : List Switch → List Times → List Switch
with_times [] times = []
with_times (s ∷ ss) [] = s ∷ with_times ss []
with_times (s ∷ ss) (t ∷ times) = switch_with s t ∷ with_times ss (if is_time_switch s then times else t ∷ times)
