-- Quotients by 10^12 that are guessed by a word.
use Rattle.std.proofs.Common.{◌≡◌, ◌⊎◌, inl, inr, ℕ, zero, suc, ◌*◌, ◌≤◌, ℤ, pos, neg_ℤ, ◌+ℤ◌, ◌-ℤ◌, ◌*ℤ◌, ◌≤ℤ◌, ◌<ℤ◌, unsigned_abs, sym, ap, ◌∙◌, arith}
use Rattle.std.proofs.lemmas.Int.{ints, by_lt_z}
use Rattle.std.proofs.Math.IntN.{*ℤ-zero, suc_ℤ-*ℤ, *ℤ_comm}
use Rattle.emtp_fix.specs.Rounding.{near}
use Rattle.emtp_fix.proofs.Wide.{abs-mul-le, mul_neg, mul_add}
use Rattle.emtp_fix.proofs.Nearest.{near_abs-low, near_abs-high, near-from_zero, near-below_zero}

-- what is rounded down after a half was added, less one where the guess is below 0, is the rounded quotient
pub near_is : (a e b r : ℤ) → ((e <ℤ pos 0) × (b ≡ pos 1)) ⊎ ((pos 0 ≤ℤ e) × (b ≡ pos 0))
    → (e *ℤ pos 1000000000000) ≤ℤ (a *ℤ pos 18446744073709551616 +ℤ pos 4000000000000000000000000000000)
    → (a *ℤ pos 18446744073709551616) ≤ℤ (e *ℤ pos 1000000000000 +ℤ pos 4000000000000000000000000000000)
    → (r *ℤ pos 1000000000000) ≤ℤ (a +ℤ pos 500000000000 -ℤ b) → (a +ℤ pos 500000000000 -ℤ b) <ℤ (r *ℤ pos 1000000000000 +ℤ pos 1000000000000)
    → near a (pos 1000000000000) ≡ r
near_is a e b r (inl (sign, is)) above under low high = by_lt_z a (pos 0)
    (λ minus. omega (arith, ints, near_abs-low (unsigned_abs a) 1000000000000 (omega arith), near_abs-high (unsigned_abs a) 1000000000000 (omega arith), near-below_zero a 1000000000000 minus))
    (λ plus. omega (arith, ints, near_abs-low (unsigned_abs a) 1000000000000 (omega arith), near_abs-high (unsigned_abs a) 1000000000000 (omega arith), near-from_zero a 1000000000000 plus))
near_is a e b r (inr (sign, is)) above under low high = by_lt_z a (pos 0)
    (λ minus. omega (arith, ints, near_abs-low (unsigned_abs a) 1000000000000 (omega arith), near_abs-high (unsigned_abs a) 1000000000000 (omega arith), near-below_zero a 1000000000000 minus))
    (λ plus. omega (arith, ints, near_abs-low (unsigned_abs a) 1000000000000 (omega arith), near_abs-high (unsigned_abs a) 1000000000000 (omega arith), near-from_zero a 1000000000000 plus))

-- ---- a product by a word

times_more : (m : ℤ) (k : ℕ) → m *ℤ pos (suc k) ≡ m *ℤ pos k +ℤ m
times_more m k =
    let last : pos (suc k) *ℤ m ≡ pos k *ℤ m +ℤ m = suc_ℤ-*ℤ (pos k) m in
    omega (arith, ints, last, *ℤ_comm m (pos (suc k)), *ℤ_comm m (pos k))

scaled_by : (x m : ℤ) (k : ℕ) → x *ℤ (m *ℤ pos k) ≡ (x *ℤ m) *ℤ pos k
scaled_by x m zero = ap (λ z. x *ℤ z) (*ℤ-zero m) ∙ *ℤ-zero x ∙ sym (*ℤ-zero (x *ℤ m))
scaled_by x m (suc k) = ap (λ z. x *ℤ z) (times_more m k) ∙ mul_add x (m *ℤ pos k) m ∙ ap (λ z. z +ℤ x *ℤ m) (scaled_by x m k) ∙ sym (times_more (x *ℤ m) k)

-- how far the product by a word, times 10^12, is from that by the ratio, times 2^62
pub word_apart : (m w x : ℤ) (l : ℕ) → (w *ℤ pos 1000000000000) ≤ℤ (m *ℤ pos 4611686018427387904) → (m *ℤ pos 4611686018427387904) ≤ℤ (w *ℤ pos 1000000000000 +ℤ pos 1000000000000) → unsigned_abs x ≤ l
    → unsigned_abs ((x *ℤ m) *ℤ pos 4611686018427387904 -ℤ (x *ℤ w) *ℤ pos 1000000000000) ≤ l * 1000000000000
word_apart m w x l low high small =
    let apart = m *ℤ pos 4611686018427387904 -ℤ w *ℤ pos 1000000000000 in
    let near : unsigned_abs apart ≤ 1000000000000 = omega (arith, ints) in
    let sum = mul_add x (m *ℤ pos 4611686018427387904) (neg_ℤ (w *ℤ pos 1000000000000)) in
    let turned = mul_neg x (w *ℤ pos 1000000000000) in
    let most = abs-mul-le x apart l 1000000000000 small near in
    omega (arith, ints, sum, turned, most, scaled_by x m 4611686018427387904, scaled_by x w 1000000000000)

-- what the code computes of a ratio m, its word w and a number x
pub record IsGuess (a e : ℤ) : Type 0 where
  pub small : unsigned_abs a ≤ 2000000000000000000000000000000
  pub low : (e *ℤ pos 1000000000000) ≤ℤ (a *ℤ pos 18446744073709551616 +ℤ pos 4000000000000000000000000000000)
  pub high : (a *ℤ pos 18446744073709551616) ≤ℤ (e *ℤ pos 1000000000000 +ℤ pos 4000000000000000000000000000000)

pub is_guess : (m w x a e : ℤ) → a ≡ m *ℤ x → e ≡ w *ℤ (pos 4 *ℤ x) → unsigned_abs m ≤ 2000000000000
    → (w *ℤ pos 1000000000000) ≤ℤ (m *ℤ pos 4611686018427387904) → (m *ℤ pos 4611686018427387904) ≤ℤ (w *ℤ pos 1000000000000 +ℤ pos 1000000000000)
    → unsigned_abs x ≤ 1000000000000000000 → IsGuess a e
is_guess m w x a e a_is e_is few low high small =
    let apart = word_apart m w x 1000000000000000000 low high small in
    let turned : a ≡ x *ℤ m = a_is ∙ *ℤ_comm m x in
    let four : e ≡ (x *ℤ w) *ℤ pos 4 = e_is ∙ ap (λ z. w *ℤ z) (*ℤ_comm (pos 4) x) ∙ scaled_by w x 4 ∙ ap (λ z. z *ℤ pos 4) (*ℤ_comm w x) in
    record {
      small = rw a_is (omega (arith, abs-mul-le m x 2000000000000 1000000000000000000 few small));
      low = omega (arith, ints, apart, turned, four);
      high = omega (arith, ints, apart, turned, four);
    }
