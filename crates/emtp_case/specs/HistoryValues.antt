-- History values: the past values that the lines and devices of a case need.
use Rattle.emtp_case.specs.declared.branch.Branch.{Branch}
use Rattle.emtp_case.specs.declared.branch.Branch.TheVariants.{Line as OfLine, Lumped as OfLumped, Phase as OfPhase, Pseudo as OfPseudo}
use Rattle.emtp_case.specs.declared.branch.Trio.{Trio}
use Rattle.emtp_case.specs.declared.case.Parts.{Parts}
use Rattle.emtp_case.specs.declared.control.DeviceCode.{DeviceCode}
use Rattle.emtp_case.specs.declared.control.DeviceCode.TheVariants.{Counter, Delay, DelayedPulse, Derivative, EffectiveValue, Extreme, Gate, GateAbove, Integral, PeakHold, SampleHold, Selector, Table, Window}
use Rattle.emtp_case.specs.declared.control.Extra.{Extra}
use Rattle.emtp_case.specs.declared.control.Extra.TheVariants.{Device as OfDevice, Formula as OfFormula}
use Rattle.emtp_fix.specs.Rounding.{near}
use Rattle.std.specs.Prelude.{◌+◌, ◌*◌, ◌/◌, ◌^◌, ◌*ℤ◌, max, pos, slice_index_or, sum_by, unsigned_abs, ℕ, ℤ}

-- a travel time in whole steps, without the rest
abbrev pub travel_steps : ℤ → ℤ → ℕ
travel_steps dt delay = unsigned_abs delay / unsigned_abs dt

-- both ends of a single line with this travel time
abbrev pub line_history_values : ℤ → ℤ → ℕ
line_history_values dt delay = 2 * (travel_steps dt delay + 1)

abbrev pub branch_history_values : ℤ → Branch → ℕ
branch_history_values dt (OfLumped b) = 0
branch_history_values dt (OfLine b) = line_history_values dt b.delay
branch_history_values dt (OfPseudo b) = 0
branch_history_values dt (OfPhase b) = 0

-- both ends of the zero sequence, and of the positive sequence for each phase
abbrev pub trio_history_values : ℤ → Trio → ℕ
trio_history_values dt t =
    2 * (travel_steps dt (slice_index_or t.delay 0 (pos 0)) + 1) + 6 * (travel_steps dt (slice_index_or t.delay 1 (pos 0)) + 1)

-- the steps of a delay, and of a period, of which one is kept at least
abbrev pub delay_steps : ℤ → ℤ → ℕ
delay_steps dt a = unsigned_abs (near a dt)

abbrev pub period_steps : ℤ → ℤ → ℕ
period_steps dt a = max 1 (unsigned_abs (near (pos (10 ^ 18)) (a *ℤ dt)))

abbrev pub device_history_values : ℤ → DeviceCode → ℤ → ℕ
device_history_values dt Gate a = 0
device_history_values dt GateAbove a = 0
device_history_values dt Delay a = delay_steps dt a + 1
device_history_values dt DelayedPulse a = delay_steps dt a + 1
device_history_values dt Table a = 0
device_history_values dt Window a = 0
device_history_values dt Integral a = 0
device_history_values dt Derivative a = 0
device_history_values dt Selector a = 0
device_history_values dt SampleHold a = 0
device_history_values dt Extreme a = 0
device_history_values dt PeakHold a = 0
device_history_values dt Counter a = 0
device_history_values dt EffectiveValue a = period_steps dt a

abbrev pub extra_history_values : ℤ → Extra → ℕ
extra_history_values dt (OfDevice x) = device_history_values dt x.code x.a
extra_history_values dt (OfFormula x) = 0

-- all history values of a case
abbrev pub history_values_of : Parts → ℕ
history_values_of p =
    sum_by (branch_history_values p.run.dt) p.branches + sum_by (trio_history_values p.run.dt) p.trios
    + sum_by (extra_history_values p.run.dt) p.extras
