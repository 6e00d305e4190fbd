-- What a limit says that isn't exceeded.
use Rattle.std.proofs.Common.{◌≡◌, ℕ, ◌<◌, ◌≤◌, Bool, true, false, None, refl, arith}
use Rattle.std.proofs.lemmas.Bool.Decides.{nat_tests}
use Rattle.std.specs.Prelude.{nat_le, nat_lt}
use Rattle.emtp_sense.specs.Limits.{too_many}

few : (is : Bool) (column : ℕ) → too_many is column ≡ None → is ≡ false
few true column e = absurd (cc)
few false column e = refl

pub within : (limit n column : ℕ) → too_many (nat_lt limit n) column ≡ None → n ≤ limit
within limit n column e = let h = few (nat_lt limit n) column e in grind (arith, nat_tests)

pub below : (limit n column : ℕ) → too_many (nat_le limit n) column ≡ None → n < limit
below limit n column e = let h = few (nat_le limit n) column e in grind (arith, nat_tests)
