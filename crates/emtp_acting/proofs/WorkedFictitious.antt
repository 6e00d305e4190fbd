-- What single branches act as, by the definitions; by hand 1/g - Z, g being 1/Z in whole pS.
use Rattle.std.proofs.Common.{◌≡◌, ℤ, pos, neg_ℤ, refl}
use Rattle.std.specs.Prelude.{Some, false, true}
use Rattle.emtp_acting.specs.Capacitance.{acting_capacitance, capacitance_is_off}
use Rattle.emtp_acting.specs.Clean.{clean_inductance}
use Rattle.emtp_acting.specs.Fictitious.{drift_of, drifts, fictitious_of, is_half, resistance_of, with_resistance}
use Rattle.emtp_case.specs.Branch.{capacitor_impedance}
use Rattle.emtp_case.specs.declared.branch.Lumped.{Lumped}
use Rattle.emtp_fix.specs.Rounding.{near, near_abs}

-- a resistance in micro-ohm before an inductance in nH
abbrev series : ℤ → ℤ → Lumped
series r l = record { line = 1; «from» = 1; to = 0; r = r; l = l; c = pos 0 }

-- 5.6 H at 1 us: Z is 11.2 megohm, g 89,286 pS for 89,285.714, so g Z is 1 + 3.2e-6
large : fictitious_of (pos 1000000) (series (pos 0) (pos 5600000000)) ≡ record { conducted = neg_ℤ (pos 3200000000000); conductance = pos 89286 }
unfolding near near_abs capacitor_impedance
large = refl

-- which is -35.839885312 ohm
large_ohms : resistance_of (record { conducted = neg_ℤ (pos 3200000000000); conductance = pos 89286 }) ≡ neg_ℤ (pos 35839885312)
unfolding near near_abs
large_ohms = refl

-- in 210 ms -1.344 of a current
large_drift : drift_of (record { conducted = neg_ℤ (pos 3200000000000); conductance = pos 89286 }) (pos 210000000000) (pos 5600000000) ≡ neg_ℤ (pos 1343995699)
unfolding near near_abs
large_drift = refl

-- 5.59998208 H has 89,286 pS as well, which is its 1/Z to 338 micro-ohm
large_clean : clean_inductance (pos 1000000) (pos 210000000000) (series (pos 0) (pos 5600000000)) ≡ Some (pos 5599982080)
unfolding near near_abs capacitor_impedance
large_clean = refl

-- 10 ohm before 5.6 H are lost: g is the same
lost : fictitious_of (pos 1000000) (series (pos 10000000) (pos 5600000000)) ≡ record { conducted = neg_ℤ (pos 4092860000000); conductance = pos 89286 }
unfolding near near_abs capacitor_impedance
lost = refl

lost_ohms : with_resistance (record { conducted = neg_ℤ (pos 4092860000000); conductance = pos 89286 }) (pos 10000000) ≡ neg_ℤ (pos 35839885312)
unfolding near near_abs
lost_ohms = refl

lost_half : is_half (record { conducted = neg_ℤ (pos 4092860000000); conductance = pos 89286 }) (pos 10000000) ≡ true
lost_half = refl

-- 67.6 mH at 1 us: -5.408 milliohm, in .2 s 1.6 % of a current
reactor_ohms : resistance_of (fictitious_of (pos 1000000) (series (pos 0) (pos 67600000))) ≡ neg_ℤ (pos 5408000)
unfolding near near_abs capacitor_impedance
reactor_ohms = refl

-- 1.03 H at 0.1 us: -131.839156 ohm
small_step_ohms : resistance_of (fictitious_of (pos 100000) (series (pos 0) (pos 1030000000))) ≡ neg_ℤ (pos 131839156229)
unfolding near near_abs capacitor_impedance
small_step_ohms = refl

-- 1 H at 1 us: none
whole_ohms : fictitious_of (pos 1000000) (series (pos 0) (pos 1000000000)) ≡ record { conducted = pos 0; conductance = pos 500000 }
unfolding near near_abs capacitor_impedance
whole_ohms = refl

whole_drift : drifts (record { conducted = pos 0; conductance = pos 500000 }) (pos 1000000000000) (pos 1000000000) ≡ false
whole_drift = refl

-- 1,530 uF at 0.1 us: dt/2C is 32.68 micro-ohm, and 33 are 1,515.15 uF
series_capacitor : acting_capacitance (pos 100000) (pos 1530000000000) ≡ pos 1515151515152
unfolding near near_abs capacitor_impedance
series_capacitor = refl

series_capacitor_off : capacitance_is_off (pos 100000) (pos 1530000000000) ≡ true
unfolding near near_abs capacitor_impedance
series_capacitor_off = refl

-- 1 uF at 1 us: .5 ohm is a whole number of micro-ohm
right_capacitor : capacitance_is_off (pos 1000000) (pos 1000000000) ≡ false
unfolding near near_abs capacitor_impedance
right_capacitor = refl
