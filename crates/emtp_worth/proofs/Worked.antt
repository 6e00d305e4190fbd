-- The definitions on small values, which the prover computes.
use Rattle.std.proofs.Common.{◌≡◌, ◌∷◌, [], List, neg_ℤ, pos, refl}
use Rattle.emtp_case.specs.declared.branch.Point.{Point}
use Rattle.emtp_fix.specs.Rounding.{near, near_abs}
use Rattle.emtp_worth.specs.Characteristic.{due, excess}

-- 1 A at 540 kV and 100 A at 612 kV: 50.5 A, halfway, have 576 kV, and -50.5 A have -576 kV
arrester : List Point
arrester = record { current = pos 1000000000; other = pos 540000000000000 } ∷ record { current = pos 100000000000; other = pos 612000000000000 } ∷ []

between : due arrester (pos 50500000000) ≡ pos 576000000000000
unfolding due near near_abs arrester
between = refl

mirrored : excess (due arrester (neg_ℤ (pos 50500000000))) (neg_ℤ (pos 577000000000000)) ≡ 1000000000000
unfolding due near near_abs arrester
mirrored = refl
