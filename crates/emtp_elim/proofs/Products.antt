-- Products and ratios with a zero factor.
use Rattle.std.proofs.Common.{◌≡◌, ℤ, pos, ◌*ℤ◌, arith}
use Rattle.std.proofs.lemmas.Int.{ints}
use Rattle.emtp_fix.proofs.Nearest.{near-zero}
use Rattle.emtp_elim.specs.Elimination.{less_product, quotient}

-- a product with a zero factor changes nothing
pub less_product-zero_left : (a p : ℤ) → less_product a (pos 0) p ≡ a
less_product-zero_left a p =
    let product : pos 0 *ℤ p ≡ pos 0 = omega (arith, ints) in
    rw (product, near-zero) (omega (arith, ints))

pub less_product-zero_right : (a m : ℤ) → less_product a m (pos 0) ≡ a
less_product-zero_right a m =
    let product : m *ℤ pos 0 ≡ pos 0 = omega (arith, ints) in
    rw (product, near-zero) (omega (arith, ints))

pub quotient-zero : (p : ℤ) → quotient (pos 0) p ≡ pos 0
quotient-zero p = near-zero p
