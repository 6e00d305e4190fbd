-- How the state of a breaker moves on.
use Rattle.std.proofs.Common.{◌≡◌, ◌&&◌, Bool, true, false, if◌then◌else◌, int_le}
use Rattle.emtp_case.specs.Switch.{is_time_kind}
use Rattle.emtp_case.specs.declared.switch.SwitchKind.{SwitchKind}
use Rattle.emtp_case.specs.declared.switch.SwitchKind.TheVariants.{Control, Measuring, Time, Valve}
use Rattle.emtp_case.specs.declared.switch.SwitchState.{SwitchState}
use Rattle.emtp_case.specs.declared.switch.SwitchState.TheVariants.{Closed, Opened, Waiting}
use Rattle.emtp_switch.specs.States.{interrupts, is_due, state_after}
use Rattle.emtp_switch.specs.held.States.{MovesOn, closes, opens, stays}
use Rattle.emtp_switch.specs.declared.states.View.{View}

may_close : (b : Bool) → MovesOn Waiting (if b then Closed else Waiting)
may_close true = closes
may_close false = stays Waiting

may_open : (b : Bool) → MovesOn Closed (if b then Opened else Closed)
may_open true = opens
may_open false = stays Closed

pub moves_on : (kind : SwitchKind) (seen : View) (state : SwitchState) → is_time_kind kind ≡ true → MovesOn state (state_after kind seen state)
moves_on (Time close open_at margin) seen Waiting h = may_close (int_le close seen.time)
moves_on (Time close open_at margin) seen Closed h = may_open (is_due open_at seen.time && interrupts margin seen.current seen.before)
moves_on (Time close open_at margin) seen Opened h = stays Opened
moves_on Measuring seen state h = absurd (cc)
moves_on (Valve ignition holding control) seen state h = absurd (cc)
moves_on (Control control) seen state h = absurd (cc)
