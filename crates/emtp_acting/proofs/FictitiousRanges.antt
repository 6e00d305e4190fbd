-- The ranges of the fraction that a fictitious resistance is.
use Rattle.std.proofs.Common.{◌≡◌, ◌≢◌, ◌∙◌, ◌+◌, ◌*◌, ◌^◌, ◌≤◌, ℕ, ℤ, pos, negsuc, ◌-ℤ◌, ◌*ℤ◌, ◌≤ℤ◌, unsigned_abs, ap, inl, inr, arith}
use Rattle.std.proofs.lemmas.Bool.{cases_lt}
use Rattle.std.proofs.lemmas.Int.{ints, unsigned_abs-mul}
use Rattle.std.proofs.lemmas.Nat.{mul-le}
use Rattle.emtp_acting.specs.Fictitious.{of_impedance}
use Rattle.emtp_acting.specs.declared.fictitious.Fictitious.{Fictitious}
use Rattle.emtp_acting.specs.held.Fictitious.{IsFictitious}
use Rattle.emtp_case.specs.held.Range.{IsBetween}
use Rattle.emtp_fix.proofs.Nearest.{near-rest}
use Rattle.emtp_fix.proofs.Quotients.{conductance-small, near-nonneg}
use Rattle.emtp_fix.specs.Rounding.{near}
use Rattle.emtp_fix.specs.declared.limit.TheConstants.{ATTO, LARGEST_ENTRY, LARGEST_IMPEDANCE, LEAST_IMPEDANCE}

-- the ranges of the fraction
pub ranges : (z : ℤ) → IsBetween LEAST_IMPEDANCE LARGEST_IMPEDANCE z → IsFictitious (of_impedance z)
ranges z between =
    let g = near ATTO z in
    let some : z ≢ pos 0 = λ e. omega (arith, ints, e, between.least) in
    let half : 2 * unsigned_abs (ATTO -ℤ g *ℤ z) ≤ unsigned_abs z = near-rest ATTO z some in
    let most : unsigned_abs z ≤ 10 ^ 15 = omega (arith, ints, between.least, between.most) in
    let low : pos 0 ≤ℤ g = near-nonneg ATTO z (omega (arith, ints)) (omega (arith, ints, between.least)) in
    record {
      conducted = omega (arith, half, most);
      conductance = record { least = at_least g (many (unsigned_abs g) (unsigned_abs z) (unsigned_abs (g *ℤ z)) (unsigned_abs (ATTO -ℤ g *ℤ z)) half most (unsigned_abs-mul g z) (lacks (g *ℤ z))) low; most = at_most g (conductance-small z (omega (arith, ints, between.least))) };
    }
  where
    lacks : (n : ℤ) → 10 ^ 18 ≤ unsigned_abs n + unsigned_abs (pos (10 ^ 18) -ℤ n)
    lacks n = omega (arith, ints)

    at_least : (g : ℤ) → 1000 ≤ unsigned_abs g → pos 0 ≤ℤ g → pos 1000 ≤ℤ g
    at_least g h low = omega (arith, ints, h, low)

    at_most : (g : ℤ) → unsigned_abs g ≤ 10 ^ 17 → g ≤ℤ pos (10 ^ 17)
    at_most g h = omega (arith, ints, h)

    many : (g z n p : ℕ) → 2 * p ≤ z → z ≤ 10 ^ 15 → n ≡ g * z → 10 ^ 18 ≤ n + p → 1000 ≤ g
    many g z n p half most is near = elim (cases_lt g 1000) [
      | inl less ↦
          let product : g * z ≤ 999 * 10 ^ 15 = mul-le g z 999 (10 ^ 15) (omega arith) most in
          absurd (omega (arith, product, half, most, is, near))
      | inr enough ↦ enough
    ]

abbrev pub made : ℤ → ℤ → Fictitious
made p g = record { conducted = p; conductance = g }

pub made_is : (p g z : ℤ) → p ≡ ATTO -ℤ near ATTO z *ℤ z → g ≡ near ATTO z → made p g ≡ of_impedance z
made_is p g z e f = ap (λ y. made y g) e ∙ ap (λ y. made (ATTO -ℤ near ATTO z *ℤ z) y) f

-- a product of two numbers above 0
pub product_range : (a b : ℤ) → IsBetween 1 LARGEST_ENTRY a → IsBetween 1 (2 * 10 ^ 15) b → IsBetween 1 (2 * 10 ^ 32) (a *ℤ b)
product_range (pos a) (pos b) h k =
    let most : a * b ≤ 10 ^ 17 * (2 * 10 ^ 15) = mul-le a b (10 ^ 17) (2 * 10 ^ 15) (omega (arith, ints, h.most)) (omega (arith, ints, k.most)) in
    let least : 1 * 1 ≤ a * b = mul-le 1 1 a b (omega (arith, ints, h.least)) (omega (arith, ints, k.least)) in
    record { least = omega (arith, ints, least); most = omega (arith, ints, most) }
product_range (negsuc a) b h k = absurd (omega (arith, ints, h.least))
product_range (pos a) (negsuc b) h k = absurd (omega (arith, ints, k.least))
