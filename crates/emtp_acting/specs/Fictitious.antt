-- The fictitious resistance of a series branch, as an exact fraction: g in pS, g r in 10^-18, so that r is their quotient in
-- micro-ohm.
use Rattle.std.specs.Int.{int_max, int_min}
use Rattle.std.specs.Prelude.{◌*◌, ◌^◌, ◌-ℤ◌, ◌+ℤ◌, ◌*ℤ◌, ◌&&◌, Bool, int_lt, nat_lt, not, ℤ, neg_ℤ, pos, unsigned_abs}
use Rattle.emtp_acting.specs.declared.fictitious.Fictitious.{Fictitious}
use Rattle.emtp_case.specs.Branch.{series_impedance}
use Rattle.emtp_case.specs.declared.branch.Lumped.{Lumped}
use Rattle.emtp_fix.specs.Rounding.{near}
use Rattle.emtp_fix.specs.declared.limit.TheConstants.{ATTO, KILO, LARGEST_VALUE}

-- ---- the fraction

-- of an impedance Z in micro-ohm: 1 - g Z over g, where g is 1/Z in whole pS
abbrev pub of_impedance : ℤ → Fictitious
of_impedance z = record { conducted = ATTO -ℤ near ATTO z *ℤ z; conductance = near ATTO z }

-- of a branch at a time step
abbrev pub fictitious_of : ℤ → Lumped → Fictitious
fictitious_of dt x = of_impedance (series_impedance dt x.r x.l x.c)

-- ---- as numbers

-- a number held to 10^18
abbrev pub held : ℤ → ℤ
held x = int_max (neg_ℤ (pos LARGEST_VALUE)) (int_min x (pos LARGEST_VALUE))

-- r in 10^-9 ohm
abbrev pub resistance_of : Fictitious → ℤ
resistance_of f = near (f.conducted *ℤ KILO) f.conductance

-- R + r in 10^-9 ohm
abbrev pub with_resistance : Fictitious → ℤ → ℤ
with_resistance f r = pos 1000 *ℤ r +ℤ resistance_of f

-- r T/L in 10^-9
abbrev pub drift_of : Fictitious → ℤ → ℤ → ℤ
drift_of f time l = held (near (f.conducted *ℤ time) (f.conductance *ℤ l))

-- ---- whether it matters, each side times g, in 10^-18

-- |r| T is more than a thousandth of L
abbrev pub drifts : Fictitious → ℤ → ℤ → Bool
drifts f time l = nat_lt (10 ^ 6 * (unsigned_abs l * unsigned_abs f.conductance)) (unsigned_abs f.conducted * unsigned_abs time)

-- |r| is more than the 10^-4 part of R
abbrev pub matters : Fictitious → ℤ → Bool
matters f r = nat_lt (unsigned_abs r * unsigned_abs f.conductance) (10 ^ 4 * unsigned_abs f.conducted)

-- |r| is at least half of an R that is there
abbrev pub is_half : Fictitious → ℤ → Bool
is_half f r = int_lt (pos 0) r && not (nat_lt (2 * unsigned_abs f.conducted) (unsigned_abs r * unsigned_abs f.conductance))
