-- An inductance that acts without a fictitious resistance to speak of.
use Rattle.std.specs.Prelude.{◌*◌, ◌^◌, ◌-ℤ◌, ◌*ℤ◌, ◌&&◌, if◌then◌else◌, Bool, None, Option, Some, int_le, int_lt, not, ℤ, pos}
use Rattle.emtp_acting.specs.Fictitious.{drifts, fictitious_of, held, of_impedance}
use Rattle.emtp_case.specs.Branch.{capacitor_impedance, series_impedance}
use Rattle.emtp_case.specs.declared.branch.Lumped.{Lumped}
use Rattle.emtp_fix.specs.Rounding.{near}
use Rattle.emtp_fix.specs.declared.limit.TheConstants.{ATTO, LARGEST_IMPEDANCE, LARGEST_INDUCTANCE, LEAST_IMPEDANCE}

-- the impedance that is left to the inductance of a branch of the conductance g: 1/g less R and dt/2C
abbrev pub left_to : ℤ → ℤ → ℤ → ℤ
left_to g r zc = near ATTO g -ℤ r -ℤ zc

-- the inductance in nH of which 2L/dt is this, held to 10^18
abbrev pub inductance_of : ℤ → ℤ → ℤ
inductance_of dt zl = held (near (zl *ℤ dt) (pos (2 * 10 ^ 9)))

abbrev pub nearest_inductance : ℤ → Lumped → ℤ
nearest_inductance dt x = inductance_of dt (left_to (fictitious_of dt x).conductance x.r (capacitor_impedance dt x.c))

-- a branch may have it
abbrev pub is_inductance : ℤ → Bool
is_inductance l = int_lt (pos 0) l && int_le l (pos LARGEST_INDUCTANCE)

abbrev pub is_impedance : ℤ → Bool
is_impedance z = int_le (pos LEAST_IMPEDANCE) z && int_le z (pos LARGEST_IMPEDANCE)

-- a branch of this impedance and inductance has a conductance in range, and a current in it that is left alone is kept to a
-- thousandth
abbrev pub is_clean_at : ℤ → ℤ → ℤ → Bool
is_clean_at time z l = is_impedance z && not (drifts (of_impedance z) time l)

abbrev pub is_clean : ℤ → ℤ → Lumped → ℤ → Bool
is_clean dt time x l = is_inductance l && is_clean_at time (series_impedance dt x.r l x.c) l

-- the nearest one, where it is clean
abbrev pub clean_inductance : ℤ → ℤ → Lumped → Option ℤ
clean_inductance dt time x = if is_clean dt time x (nearest_inductance dt x) then Some (nearest_inductance dt x) else None
