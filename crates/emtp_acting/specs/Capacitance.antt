-- What the capacitance of a series branch acts as: its impedance zc, dt/2C, is a whole number of micro-ohm.
use Rattle.std.specs.Ordering.{int_eq}
use Rattle.std.specs.Prelude.{◌*◌, ◌/◌, ◌^◌, ◌-ℤ◌, ◌*ℤ◌, ◌&&◌, if◌then◌else◌, Bool, nat_lt, not, ℤ, pos, unsigned_abs}
use Rattle.emtp_acting.specs.Fictitious.{held}
use Rattle.emtp_case.specs.Branch.{capacitor_impedance}
use Rattle.emtp_fix.specs.Rounding.{near}
use Rattle.emtp_fix.specs.declared.limit.TheConstants.{NANO}

-- the capacitance in fF of which zc is the impedance, dt/2zc; of none it is a wire's, said as 0
abbrev pub capacitance_of : ℤ → ℤ → ℤ
capacitance_of dt zc = if int_eq zc (pos 0) then pos 0 else held (near (dt *ℤ NANO) (pos 2 *ℤ zc))

abbrev pub acting_capacitance : ℤ → ℤ → ℤ
acting_capacitance dt c = capacitance_of dt (capacitor_impedance dt c)

-- the step differs by more than the 10^-4 part from the one that would be right
abbrev pub is_rest_off : ℤ → ℤ → Bool
is_rest_off step own = nat_lt (unsigned_abs own / 10 ^ 4) (unsigned_abs (step -ℤ own))

-- |C' - C| is more than 10^-4 C, where C' is dt/2zc: each side times 2 zc
abbrev pub is_off : ℤ → ℤ → ℤ → Bool
is_off dt zc c = is_rest_off (dt *ℤ NANO) (zc *ℤ (pos 2 *ℤ c))

-- of a capacitance that is there
abbrev pub capacitance_is_off : ℤ → ℤ → Bool
capacitance_is_off dt c = not (int_eq c (pos 0)) && is_off dt (capacitor_impedance dt c) c
