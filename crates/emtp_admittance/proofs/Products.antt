-- Products with sums and differences, and of three numbers.
use Rattle.std.proofs.Common.{◌≡◌, ◌≢◌, ◌≤◌, ◌∙◌, sym, ap, ℕ, zero, suc, ◌+◌, ◌*◌, ◌<◌, ℤ, pos, negsuc, neg_ℤ, ◌+ℤ◌, ◌-ℤ◌, ◌*ℤ◌, unsigned_abs, inl, inr, arith}
use Rattle.std.proofs.Math.IntN.{*ℤ-zero, *ℤ_comm}
use Rattle.std.proofs.Math.Nat.{mul-le-mul_left}
use Rattle.std.proofs.lemmas.Bool.{cases_lt}
use Rattle.std.proofs.lemmas.Int.{ints, unsigned_abs-mul}
use Rattle.std.proofs.lemmas.Nat.{mul-le}
use Rattle.emtp_fix.proofs.Nearest.{some_magnitude}
use Rattle.emtp_fix.proofs.Wide.{mul_add, mul_neg}

-- ---- equations

pub times_difference : (g x y : ℤ) → g *ℤ (x -ℤ y) ≡ g *ℤ x -ℤ g *ℤ y
times_difference g x y =
    let whole : (x -ℤ y) +ℤ y ≡ x = omega (arith, ints) in
    omega (arith, ints, mul_add g (x -ℤ y) y, ap (λ z. g *ℤ z) whole)

pub neg_times : (g x : ℤ) → neg_ℤ g *ℤ x ≡ neg_ℤ (g *ℤ x)
neg_times g x = *ℤ_comm (neg_ℤ g) x ∙ mul_neg x g ∙ ap neg_ℤ (*ℤ_comm x g)

pub sum_times : (x y g : ℤ) → (x +ℤ y) *ℤ g ≡ x *ℤ g +ℤ y *ℤ g
sum_times x y g = omega (arith, ints, *ℤ_comm (x +ℤ y) g, mul_add g x y, *ℤ_comm g x, *ℤ_comm g y)

pub difference_times : (x y g : ℤ) → (x -ℤ y) *ℤ g ≡ x *ℤ g -ℤ y *ℤ g
difference_times x y g = omega (arith, ints, *ℤ_comm (x -ℤ y) g, times_difference g x y, *ℤ_comm g x, *ℤ_comm g y)

by_ones : (a b : ℤ) (n : ℕ) → a *ℤ b *ℤ pos n ≡ a *ℤ (b *ℤ pos n)
by_ones a b zero = *ℤ-zero (a *ℤ b) ∙ sym (ap (λ z. a *ℤ z) (*ℤ-zero b) ∙ *ℤ-zero a)
by_ones a b (suc n) = one_more (a *ℤ b) n ∙ ap (λ z. z +ℤ a *ℤ b) (by_ones a b n) ∙ sym (mul_add a (b *ℤ pos n) b) ∙ sym (ap (λ z. a *ℤ z) (one_more b n))
  where
    one_more : (g : ℤ) (n : ℕ) → g *ℤ pos (suc n) ≡ g *ℤ pos n +ℤ g
    one_more g n =
        let split : pos (suc n) ≡ pos n +ℤ pos 1 = omega (arith, ints) in
        let one : g *ℤ pos 1 ≡ g = omega (arith, ints) in
        ap (λ z. g *ℤ z) split ∙ mul_add g (pos n) (pos 1) ∙ ap (λ z. g *ℤ pos n +ℤ z) one

-- in whatever way three factors are taken together
pub product_of_three : (a b c : ℤ) → a *ℤ b *ℤ c ≡ a *ℤ (b *ℤ c)
product_of_three a b (pos n) = by_ones a b n
product_of_three a b (negsuc n) =
    mul_neg (a *ℤ b) (pos (suc n)) ∙ ap neg_ℤ (by_ones a b (suc n))
    ∙ sym (ap (λ z. a *ℤ z) (mul_neg b (pos (suc n))) ∙ mul_neg a (b *ℤ pos (suc n)))

-- the last two exchanged
pub last_exchanged : (a b c : ℤ) → a *ℤ b *ℤ c ≡ a *ℤ c *ℤ b
last_exchanged a b c = product_of_three a b c ∙ ap (λ z. a *ℤ z) (*ℤ_comm b c) ∙ sym (product_of_three a c b)

-- ---- sizes

-- where s times e is at most the products of two rests with y and z, and each rest is at most half of s, e is at most the
-- mean of y and z
pub mean_of_two : (s e p q y z : ℤ) → s ≢ pos 0 → 2 * unsigned_abs p ≤ unsigned_abs s → 2 * unsigned_abs q ≤ unsigned_abs s
    → unsigned_abs (s *ℤ e) ≤ unsigned_abs (p *ℤ y) + unsigned_abs (q *ℤ z) → 2 * unsigned_abs e ≤ unsigned_abs y + unsigned_abs z
mean_of_two s e p q y z some in_p in_q is =
    without (unsigned_abs s) (unsigned_abs e) (unsigned_abs y + unsigned_abs z) (some_magnitude s some)
    (spread (unsigned_abs s) (unsigned_abs e) (unsigned_abs p) (unsigned_abs q) (unsigned_abs y) (unsigned_abs z) in_p in_q
    (omega (arith, is, unsigned_abs-mul s e, unsigned_abs-mul p y, unsigned_abs-mul q z)))
  where
    spread : (s e p q y z : ℕ) → 2 * p ≤ s → 2 * q ≤ s → s * e ≤ p * y + q * z → s * (2 * e) ≤ s * (y + z)
    spread s e p q y z in_p in_q is =
        let left : 2 * p * y ≤ s * y = mul-le (2 * p) y s y in_p (omega arith) in
        let right : 2 * q * z ≤ s * z = mul-le (2 * q) z s z in_q (omega arith) in
        omega (arith, left, right, is)

    without : (s a b : ℕ) → 0 < s → s * (2 * a) ≤ s * b → 2 * a ≤ b
    without s a b some h = elim (cases_lt b (2 * a)) [
      | inl more ↦
          let most : s * (b + 1) ≤ s * (2 * a) = mul-le-mul_left s (omega (arith, more)) in
          absurd (omega (arith, h, most, some))
      | inr less ↦ less
    ]
