-- An impedance, and the admittance that is its inverse.
use Rattle.std.specs.Prelude.{◌≡◌, ◌≤◌, ◌+◌, ◌*◌, ℤ, ◌+ℤ◌, ◌-ℤ◌, ◌*ℤ◌, unsigned_abs}
use Rattle.emtp_fix.specs.declared.limit.TheConstants.{ATTO}
use Rattle.emtp_admittance.specs.Impedance.{across_ends}
use Rattle.emtp_admittance.specs.declared.admittance.Admittance.{Admittance}
use Rattle.emtp_admittance.specs.declared.admittance.TwoPort.{TwoPort}

-- (G + jB) (R + jX) is 1, up to half of |R| + |X| in each part; G and B are in pS, R and X in micro-ohm, 1 is ATTO
pub record IsInverse (r x : ℤ) (y : Admittance) : Type 0 where
  pub real : 2 * unsigned_abs ((y.conductance *ℤ r -ℤ y.susceptance *ℤ x) -ℤ ATTO) ≤ unsigned_abs r + unsigned_abs x
  pub imaginary : 2 * unsigned_abs (y.conductance *ℤ x +ℤ y.susceptance *ℤ r) ≤ unsigned_abs r + unsigned_abs x

-- it stands between the two ends
pub record IsInverseAcross (r x : ℤ) (y : TwoPort) : Type 0 where
  pub across : y ≡ across_ends y.own
  pub inverse : IsInverse r x y.own
