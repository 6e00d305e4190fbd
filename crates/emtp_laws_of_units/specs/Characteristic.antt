-- A pseudo-nonlinear resistor in the units of a case: its points in nA over nV. Conductances are in pS, resistances in micro-ohm;
-- nothing is divided.
use Rattle.std.specs.Prelude.{◌≤◌, ◌+◌, ◌*◌, ◌^◌, ◌-ℤ◌, ◌*ℤ◌, ℤ, unsigned_abs}
use Rattle.emtp_case.specs.declared.branch.PseudoState.{PseudoState}
use Rattle.emtp_pseudo.specs.declared.segment.Segment.{Segment}

-- by how much the current is above the line through a segment's base with its rise, at the voltage v, times the voltage of the
-- rise, in nA nV
abbrev pub excess_over : Segment → ℤ → PseudoState → ℤ
excess_over s v new = s.rise.other *ℤ (new.current -ℤ s.base.current) -ℤ s.rise.current *ℤ (v -ℤ s.base.other)

-- It is at most that voltage times 1 nA and 0.5 pS of the voltage from the base: what the conductance and both parts of the
-- current round. Half a micro-ohm, by which the slope is rounded, adds its part of the slope, of that bound and of the current
-- from the base.
abbrev pub LiesOnLine : Segment → ℤ → PseudoState → Type 0
LiesOnLine s v new =
    4 * 10 ^ 18 * unsigned_abs (excess_over s v new)
    ≤ (2 * 10 ^ 6 * unsigned_abs s.rise.other + unsigned_abs s.rise.current) * (2 * 10 ^ 12 + unsigned_abs (v -ℤ s.base.other))
    + 2 * 10 ^ 12 * (unsigned_abs s.rise.current * unsigned_abs (new.current -ℤ s.base.current))
