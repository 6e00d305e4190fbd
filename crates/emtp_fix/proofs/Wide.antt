-- Numbers of 128 and of 64 bits that are far from their limits. For the crates of laws, whose code computes
-- `to_z (of_z x)` where a definition has x.
use Rattle.std.proofs.Common.{◌≡◌, ◌∙◌, ap, sym, subst, ℕ, zero, suc, pos, negsuc, neg_ℤ, ◌≤ℤ◌, ◌-◌, ◌*◌, ◌+◌, ◌^◌, ◌≤◌, unsigned_abs, refl, ◌*ℤ◌, ◌+ℤ◌, ◌-ℤ◌, ℤ, FitsSigned, to_z, of_z, arith}
use mir.Syntax.{w64, w128}
use Rattle.std.proofs.lemmas.Int.{ints, to_z-of_z, unsigned_abs-mul, fits_signed_from_abs}
use Rattle.std.proofs.lemmas.Nat.{mul-le}
use Rattle.std.proofs.Math.IntN.{*ℤ-zero, *ℤ-negsuc, neg_ℤ-neg_ℤ, suc_ℤ, suc_ℤ-*ℤ, zero-*ℤ, *ℤ_comm}
use Rattle.emtp_fix.specs.Rounding.{near}
use Rattle.emtp_fix.specs.declared.limit.TheConstants.{LARGEST_VALUE, LARGEST_WIDE}
use Rattle.emtp_fix.proofs.Nearest.{unsigned_abs-near-le}

pub fits : (z : ℤ) → unsigned_abs z ≤ LARGEST_WIDE → FitsSigned w128 z
fits z h = fits_signed_from_abs w128 z (omega arith)

-- a number that went to bits and was read again
pub through : (z : ℤ) → unsigned_abs z ≤ LARGEST_WIDE → to_z w128 (of_z w128 z) ≡ z
through z h = to_z-of_z w128 z (fits z h)

pub fits_64 : (z : ℤ) → unsigned_abs z ≤ LARGEST_VALUE → FitsSigned w64 z
fits_64 z h = fits_signed_from_abs w64 z (omega arith)

pub through_64 : (z : ℤ) → unsigned_abs z ≤ LARGEST_VALUE → to_z w64 (of_z w64 z) ≡ z
through_64 z h = to_z-of_z w64 z (fits_64 z h)

-- a bound on a product
pub abs-mul-le : (a b : ℤ) (m n : ℕ) → unsigned_abs a ≤ m → unsigned_abs b ≤ n → unsigned_abs (a *ℤ b) ≤ m * n
abs-mul-le a b m n p q = omega (arith, unsigned_abs-mul a b, mul-le (unsigned_abs a) (unsigned_abs b) m n p q)

-- and on a sum
pub abs-add-le : (a b : ℤ) → unsigned_abs (a +ℤ b) ≤ unsigned_abs a + unsigned_abs b
abs-add-le a b = omega (arith, ints)

pub abs-sub-le : (a b : ℤ) → unsigned_abs (a -ℤ b) ≤ unsigned_abs a + unsigned_abs b
abs-sub-le a b = omega (arith, ints)

-- the product of two numbers within their limits, as the code computes it
pub product_through : (a b : ℤ) (m n : ℕ) → unsigned_abs a ≤ m → unsigned_abs b ≤ n → m * n ≤ LARGEST_WIDE → m ≤ LARGEST_WIDE → n ≤ LARGEST_WIDE
    → to_z w128 (of_z w128 (to_z w128 (of_z w128 a) *ℤ to_z w128 (of_z w128 b))) ≡ a *ℤ b
product_through a b m n p q small small_m small_n =
    let same_a : to_z w128 (of_z w128 a) ≡ a = through a (omega arith) in
    let same_b : to_z w128 (of_z w128 b) ≡ b = through b (omega arith) in
    rw (same_a, same_b) (through (a *ℤ b) (omega (arith, abs-mul-le a b m n p q)))

-- a product brought back to its unit
pub near_product-le : (a b d : ℤ) (m n : ℕ) → unsigned_abs a ≤ m → unsigned_abs b ≤ n → unsigned_abs (near (a *ℤ b) d) ≤ m * n
near_product-le a b d m n p q = omega (arith, unsigned_abs-near-le (a *ℤ b) d, abs-mul-le a b m n p q)

-- ---- from 64 bits into 128

pub wide_is : (z : ℤ) → unsigned_abs z ≤ LARGEST_VALUE → to_z w128 (of_z w128 (to_z w64 (of_z w64 z))) ≡ z
wide_is z small = ap (λ y. to_z w128 (of_z w128 y)) (through_64 z small) ∙ through z (omega (arith, small))

pub wide_fits : (z : ℤ) → unsigned_abs z ≤ LARGEST_VALUE → FitsSigned w128 (to_z w64 (of_z w64 z))
wide_fits z small = subst (FitsSigned w128) (sym (through_64 z small)) (fits z (omega (arith, small)))

-- ---- and from 128 into 64

pub narrow_is : (r z : ℤ) → r ≡ z → unsigned_abs z ≤ 4 * 10 ^ 18 → to_z w64 (of_z w64 (to_z w128 (of_z w128 r))) ≡ z
narrow_is r z e small = omega (arith, ints, e, small)

pub narrow_fits : (r z : ℤ) → r ≡ z → unsigned_abs z ≤ 4 * 10 ^ 18 → FitsSigned w64 (to_z w128 (of_z w128 r))
narrow_fits r z e small =
    let same : to_z w128 (of_z w128 r) ≡ z = omega (arith, ints, e, small) in
    subst (FitsSigned w64) (sym same) (fits_signed_from_abs w64 z (omega arith))

-- a number between the ends of 64 bits
pub fits_between : (z : ℤ) → neg_ℤ (pos (2 ^ 63)) ≤ℤ z → z ≤ℤ pos (2 ^ 63 - 1) → FitsSigned w64 z
fits_between (pos n) low high = record { sfits = omega (arith, ints, high) }
fits_between (negsuc n) low high = record { sfits = omega (arith, ints, low) }

-- ---- products

pub mul_neg : (g x : ℤ) → g *ℤ neg_ℤ x ≡ neg_ℤ (g *ℤ x)
mul_neg g (pos zero) = *ℤ-zero g ∙ sym (ap neg_ℤ (*ℤ-zero g))
mul_neg g (pos (suc n)) = *ℤ-negsuc g n
mul_neg g (negsuc n) = sym (ap neg_ℤ (*ℤ-negsuc g n) ∙ neg_ℤ-neg_ℤ (g *ℤ pos (suc n)))

suc_is : (z : ℤ) → suc_ℤ z ≡ z +ℤ pos 1
suc_is (pos n) = omega (arith, ints)
suc_is (negsuc zero) = refl
suc_is (negsuc (suc n)) = omega (arith, ints)

times_up : (x g : ℤ) (n : ℕ) → (x +ℤ pos n) *ℤ g ≡ x *ℤ g +ℤ pos n *ℤ g
times_up x g zero =
    let add : x +ℤ pos 0 ≡ x = omega (arith, ints) in
    let none : pos 0 *ℤ g ≡ pos 0 = zero-*ℤ g in
    ap (λ z. z *ℤ g) add ∙ omega (arith, ints, none)
times_up x g (suc n) =
    let more : x +ℤ pos (suc n) ≡ suc_ℤ (x +ℤ pos n) = omega (arith, ints, suc_is (x +ℤ pos n)) in
    let last : pos (suc n) *ℤ g ≡ pos n *ℤ g +ℤ g = suc_ℤ-*ℤ (pos n) g in
    ap (λ z. z *ℤ g) more ∙ suc_ℤ-*ℤ (x +ℤ pos n) g ∙ omega (arith, ints, times_up x g n, last)

-- a product with a sum is the sum of the products
pub mul_add : (g x y : ℤ) → g *ℤ (x +ℤ y) ≡ g *ℤ x +ℤ g *ℤ y
mul_add g x (pos n) =
    let turned : g *ℤ (x +ℤ pos n) ≡ (x +ℤ pos n) *ℤ g = *ℤ_comm g (x +ℤ pos n) in
    omega (arith, ints, turned, times_up x g n, *ℤ_comm g x, *ℤ_comm g (pos n))
mul_add g x (negsuc n) =
    let rest = x +ℤ negsuc n in
    let back : x ≡ rest +ℤ pos (suc n) = omega (arith, ints) in
    let whole : g *ℤ x ≡ (rest +ℤ pos (suc n)) *ℤ g = ap (λ z. g *ℤ z) back ∙ *ℤ_comm g (rest +ℤ pos (suc n)) in
    omega (arith, ints, whole, times_up rest g (suc n), *ℤ_comm g rest, *ℤ_comm g (pos (suc n)), *ℤ-negsuc g n)
