-- The states of the switches: those of a step follow from its time and from the last two records.
use Rattle.emtp_case.specs.RunData.{time_of}
use Rattle.emtp_case.specs.StepRecord.{StepRecord, is_closed, latest, record_back, switch_current_at, switch_state_at, value_at, voltage_at}
use Rattle.emtp_case.specs.declared.case.Parts.{Parts}
use Rattle.emtp_case.specs.declared.switch.Switch.{Switch}
use Rattle.emtp_case.specs.declared.switch.SwitchKind.{SwitchKind}
use Rattle.emtp_case.specs.declared.switch.SwitchKind.TheVariants.{Control, Measuring, Time, Valve}
use Rattle.emtp_case.specs.declared.switch.SwitchState.{SwitchState}
use Rattle.emtp_case.specs.declared.switch.SwitchState.TheVariants.{Closed, Opened, Waiting}
use Rattle.emtp_switch.specs.Groups.{switch_at}
use Rattle.emtp_switch.specs.declared.states.View.{View}
use Rattle.std.specs.List.{range_with_len}
use Rattle.std.specs.Prelude.{◌&&◌, ◌||◌, ◌-ℤ◌, if◌then◌else◌, Bool, List, None, Option, Some, int_le, int_lt, length, map, nat_le, pos, true, false, unsigned_abs, ℕ, ℤ}

-- Breakers

-- opposite signs: the product is below 0
abbrev pub oppose : ℤ → ℤ → Bool
oppose a b = int_lt a (pos 0) && int_lt (pos 0) b || int_lt (pos 0) a && int_lt b (pos 0)

-- a breaker that is to open interrupts a current within its margin, and one that has changed its sign
abbrev pub interrupts : ℤ → ℤ → ℤ → Bool
interrupts margin current before = nat_le (unsigned_abs current) (unsigned_abs margin) || oppose current before

-- its opening time has come
abbrev pub is_due : Option ℤ → ℤ → Bool
is_due None time = false
is_due (Some open_at) time = int_le open_at time

abbrev pub breaker_state : ℤ → Option ℤ → ℤ → View → SwitchState → SwitchState
breaker_state close open_at margin seen Waiting = if int_le close seen.time then Closed else Waiting
breaker_state close open_at margin seen Closed =
    if is_due open_at seen.time && interrupts margin seen.current seen.before then Opened else Closed
breaker_state close open_at margin seen Opened = Opened

-- Valves

-- a valve conducts until its current falls below the holding current
abbrev pub valve_state : ℤ → ℤ → View → SwitchState → SwitchState
valve_state ignition holding seen state =
    if is_closed state
    then (if int_lt seen.current holding then Opened else Closed)
    else (if int_lt (pos 0) seen.voltage && int_le ignition seen.voltage && seen.on then Closed else Opened)

-- All kinds

-- the state of a switch in the step that it sees, after a state
abbrev pub state_after : SwitchKind → View → SwitchState → SwitchState
state_after (Time close open_at margin) seen state = breaker_state close open_at margin seen state
state_after Measuring seen state = Closed
state_after (Valve ignition holding control) seen state = valve_state ignition holding seen state
state_after (Control control) seen state = if seen.on then Closed else Opened

-- the variable that has to be above 0, if there is one
abbrev pub control_of : SwitchKind → Option ℕ
control_of (Time close open_at margin) = None
control_of Measuring = None
control_of (Valve ignition holding control) = control
control_of (Control control) = Some control

-- it is above 0 in a record, or there is none
abbrev pub is_on : Option ℕ → StepRecord → Bool
is_on None r = true
is_on (Some var) r = int_lt (pos 0) (value_at var r)

-- what a switch sees: the time of the step after the records, and its numbers in the last two of them
abbrev pub view_of : Parts → List StepRecord → Switch → ℕ → View
view_of p H x s = record {
  time = time_of p.run (length H);
  current = switch_current_at s (latest H);
  before = switch_current_at s (record_back H 1);
  voltage = voltage_at x.from (latest H) -ℤ voltage_at x.to (latest H);
  on = is_on (control_of x.kind) (latest H);
}

-- the state of a switch in the step after the records
abbrev pub next_state : Parts → List StepRecord → ℕ → SwitchState
next_state p H s =
    state_after (switch_at p.switches s).kind (view_of p H (switch_at p.switches s) s) (switch_state_at s (latest H))

abbrev pub next_states : Parts → List StepRecord → List SwitchState
next_states p H = map (next_state p H) (range_with_len 0 (length p.switches))
