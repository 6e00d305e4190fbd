-- The admittance of a series branch at worked values.
use Rattle.std.proofs.Common.{◌≡◌, ◌^◌, ◌*◌, pos, neg_ℤ, ◌-ℤ◌, ◌*ℤ◌, unsigned_abs, Some, refl}
use Rattle.emtp_fix.specs.Rounding.{near, near_abs}
use Rattle.emtp_fix.specs.declared.limit.TheConstants.{ATTO}
use Rattle.emtp_case.specs.declared.branch.Lumped.{Lumped}
use Rattle.emtp_admittance.specs.Impedance.{across_ends, angular_frequency, capacitive_reactance, inductive_reactance, inverse, series_port}

-- 10 ohm, 0.1 H and 10 microfarad
filter : Lumped
filter = record { line = 1; from = 1; to = 0; r = pos (10 ^ 7); l = pos (10 ^ 8); c = pos (10 ^ 10) }

-- at 50 Hz: 31.415927 ohm less 318.309886 ohm
reactance : inductive_reactance (angular_frequency (pos (50 * 10 ^ 6))) filter.l -ℤ capacitive_reactance (angular_frequency (pos (50 * 10 ^ 6))) filter.c ≡ neg_ℤ (pos 286893959)
unfolding filter capacitive_reactance near near_abs
reactance = refl

-- 1 / (10 - j 286.893959) ohm is 121.34723 + j 3481.378734 microsiemens
at_50_hertz : series_port (angular_frequency (pos (50 * 10 ^ 6))) filter ≡ Some (across_ends (record { conductance = pos 121347230; susceptance = pos 3481378734 }))
unfolding filter series_port capacitive_reactance near near_abs
at_50_hertz = refl

-- 640 megohm are 1562.5 pS, rounded up: times the resistance half a pS more than 1
large_resistance : inverse (pos (64 * 10 ^ 13)) (pos 0) ≡ record { conductance = pos 1563; susceptance = pos 0 }
unfolding near near_abs
large_resistance = refl

half_a_pico_more : 2 * unsigned_abs ((pos 1563 *ℤ pos (64 * 10 ^ 13) -ℤ pos 0 *ℤ pos 0) -ℤ ATTO) ≡ 64 * 10 ^ 13
half_a_pico_more = refl
