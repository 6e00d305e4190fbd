-- What a series branch does beside its resistance, its inductance and its capacitance. Its conductance g is 1/Z in whole pS,
-- so it acts as if a resistance r = 1/g - Z stood in series, of either sign: the fictitious resistance. Nothing is divided:
-- what is said of r is said of g r. Units: nV, nA, micro-ohm, pS, nH, fF, ps; 1 micro-ohm nA is 10^-6 nV, and 1 pS nV is 10^-12 nA.
use Rattle.std.specs.Prelude.{◌≤◌, ◌+◌, ◌*◌, ◌^◌, ◌+ℤ◌, ◌-ℤ◌, ◌*ℤ◌, if◌then◌else◌, ℕ, ℤ, pos, unsigned_abs}
use Rattle.std.specs.Ordering.{int_eq}
use Rattle.emtp_case.specs.Branch.{series_impedance}
use Rattle.emtp_case.specs.declared.branch.Lumped.{Lumped}
use Rattle.emtp_case.specs.declared.branch.LumpedState.{LumpedState}
use Rattle.emtp_acting.specs.Fictitious.{fictitious_of}
use Rattle.emtp_laws.specs.Branches.{excess_voltage}
use Rattle.emtp_lumped.specs.Companion.{companion_of}

-- ---- the fictitious resistance

-- g, in pS
abbrev pub conductance_of : ℤ → Lumped → ℤ
conductance_of dt x = (companion_of dt x).conductance

-- Z, in micro-ohm
abbrev pub impedance_of : ℤ → Lumped → ℤ
impedance_of dt x = series_impedance dt x.r x.l x.c

-- g r, in 10^-18: what g Z lacks of 1
abbrev pub conducted_fictitious : ℤ → Lumped → ℤ
conducted_fictitious dt x = (fictitious_of dt x).conducted

-- g (R + r): what a branch has of both resistances
abbrev pub conducted_resistance : ℤ → Lumped → ℤ
conducted_resistance dt x = conductance_of dt x *ℤ x.r +ℤ conducted_fictitious dt x

-- g |r| is at most half a pS of Z, and |r| is at most half a pS of Z^2 and the two-thousandth part more
pub record IsSmallFictitious (dt : ℤ) (x : Lumped) : Type 0 where
  pub of_impedance : 2 * unsigned_abs (conducted_fictitious dt x) ≤ unsigned_abs (impedance_of dt x)
  pub of_square :
      1999 * 10 ^ 15 * unsigned_abs (conducted_fictitious dt x)
      ≤ unsigned_abs (conductance_of dt x) * (unsigned_abs (impedance_of dt x) * unsigned_abs (impedance_of dt x))

-- ---- a record

-- 1 where there is something, as a capacitance or a voltage, and so something to round; 0 where there is nothing
abbrev pub one_if_some : ℤ → ℕ
one_if_some c = if int_eq c (pos 0) then 0 else 1

-- The voltage is R i + vL + vC + r i: within half a nV for each of vL, the history voltage and, where there is a capacitance,
-- vC; and within 1 nA / g, half a nA for each of the parts g v and J of the current, the first only where v isn't 0. The
-- whole stands times 2 g.
abbrev pub HasFictitiousDrop : ℤ → Lumped → ℤ → LumpedState → Type 0
HasFictitiousDrop dt x v s =
    2 * unsigned_abs (conductance_of dt x *ℤ excess_voltage x v s -ℤ conducted_fictitious dt x *ℤ s.current)
    ≤ 10 ^ 18 * (1 + one_if_some v) + 10 ^ 6 * ((2 + one_if_some x.c) * unsigned_abs (conductance_of dt x))
