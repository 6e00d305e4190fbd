-- One step of a pseudo-nonlinear branch in whole numbers. It stays on one segment; what it ends with decides the segment
-- of the next step.
use Rattle.std.specs.Prelude.{◌^◌, ◌*◌, ◌+ℤ◌, ◌-ℤ◌, ◌*ℤ◌, Bool, Option, Some, false, pos, true, ℤ}
use Rattle.emtp_case.specs.StepRecord.{no_pseudo}
use Rattle.emtp_case.specs.declared.branch.PseudoState.{PseudoState}
use Rattle.emtp_fix.specs.Limit.{in_range, ◌>>=◌}
use Rattle.emtp_fix.specs.Rounding.{near}
use Rattle.emtp_fix.specs.declared.limit.TheConstants.{PICO}
use Rattle.emtp_pseudo.specs.Segment.{next_segment}
use Rattle.emtp_pseudo.specs.declared.moment.Moment.{Moment}
use Rattle.emtp_pseudo.specs.declared.segment.Segment.{Segment}

-- before the first record all is 0
abbrev pub moment_at_rest : Moment
moment_at_rest = record { state = no_pseudo; voltage = pos 0 }

-- J: of a resistor ib - g*yb, of a reactor g*v' + ib + (flux' - yb)*di/dy
abbrev pub history_current_of : Bool → Segment → Moment → ℤ
history_current_of false s old = s.base.current -ℤ near (s.conductance *ℤ s.base.other) PICO
history_current_of true s old =
    (near (s.conductance *ℤ old.voltage) PICO +ℤ s.base.current)
    +ℤ near (s.rise.current *ℤ (old.state.flux -ℤ s.base.other)) s.rise.other

-- i = g*v + J
abbrev pub current_of : Bool → Segment → Moment → ℤ → ℤ
current_of reactor s old v = near (s.conductance *ℤ v) PICO +ℤ history_current_of reactor s old

-- twice the nV times ps in a pWb, since a trapezoid takes the mean of two voltages
abbrev pub DOUBLE_NANO : ℤ
DOUBLE_NANO = pos (2 * 10 ^ 9)

-- flux = flux' + dt*(v + v')/2; a resistor has none
abbrev pub flux_of : Bool → ℤ → Moment → ℤ → ℤ
flux_of false dt old v = pos 0
flux_of true dt old v = old.state.flux +ℤ near (dt *ℤ (old.voltage +ℤ v)) DOUBLE_NANO

-- y, what the points are over: the flux of a reactor, the voltage of a resistor
abbrev pub place_of : Bool → ℤ → ℤ → ℤ
place_of false flux v = v
place_of true flux v = flux

-- what the next record keeps at a branch voltage; none where one of the numbers is out of range
unfoldable pub next_state : Bool → ℤ → Segment → Moment → ℤ → Option PseudoState
next_state reactor dt s old v = do
  i ← in_range (current_of reactor s old v)
  flux ← in_range (flux_of reactor dt old v)
  Some (record { current = i; segment = next_segment s old.state.segment (place_of reactor flux v); flux = flux })
