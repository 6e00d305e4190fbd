-- Laws of rounding.
use Rattle.std.proofs.Common.{◌≡◌, ◌≢◌, inl, inr, ℕ, zero, suc, ◌+◌, ◌-◌, ◌*◌, ◌/◌, ◌<◌, ◌≤◌, ℤ, pos, negsuc, neg_ℤ, ◌-ℤ◌, ◌*ℤ◌, ◌≤ℤ◌, ◌<ℤ◌, unsigned_abs, refl, arith, ap, ◌∙◌}
use Rattle.std.proofs.lemmas.Int.{ints, unsigned_abs-mul}
use Rattle.std.proofs.lemmas.Bool.{cases_order, cases_lt}
use Rattle.std.proofs.Math.Nat.{div-eq_of_lt-le, mul-le-mul_right, mul-le-mul_left, div-zero, div-mul-le_self, lt-div-mul-add}
use Rattle.emtp_fix.specs.Rounding.{near, near_abs}
use Rattle.emtp_fix.specs.held.Rounding.{rest, IsNearest}

-- ---- over whole numbers without sign

-- twice the rounded quotient times d is at most d above twice n
pub near_abs-low : (n d : ℕ) → 0 < d → 2 * (near_abs n d * d) ≤ 2 * n + d
unfolding near_abs
near_abs-low n d h = omega (arith, div-mul-le_self (2 * n + d) (2 * d))

-- and less than d below it
pub near_abs-high : (n d : ℕ) → 0 < d → 2 * n < 2 * (near_abs n d * d) + d
unfolding near_abs
near_abs-high n d h =
    let twice : 0 < 2 * d = omega arith in
    omega (arith, lt-div-mul-add {a = 2 * n + d} {b = 2 * d} twice)

-- and the rounded quotient is the only number of which both hold
pub near_abs_is : (n d m : ℕ) → 2 * (m * d) ≤ 2 * n + d → 2 * n < 2 * (m * d) + d → near_abs n d ≡ m
unfolding near_abs
near_abs_is n d m low high = div-eq_of_lt-le (2 * d) (omega arith) (omega arith)

-- how far two numbers are apart
abbrev pub apart : ℕ → ℕ → ℕ
apart m n = (m - n) + (n - m)

-- no multiple of d lies nearer to n than the rounded quotient's
pub apart-near_abs : (n d k : ℕ) → 0 < d → apart n (near_abs n d * d) ≤ apart n (k * d)
apart-near_abs n d k h = elim (cases_order k (near_abs n d)) [
  | inl same ↦ rw same (omega arith)
  | inr (inl less) ↦
      let step : (k + 1) * d ≤ near_abs n d * d = mul-le-mul_right d (omega arith) in
      omega (arith, near_abs-low n d h, near_abs-high n d h)
  | inr (inr more) ↦
      let step : (near_abs n d + 1) * d ≤ k * d = mul-le-mul_right d (omega arith) in
      omega (arith, near_abs-low n d h, near_abs-high n d h)
]

-- and one that lies as near is no greater
pub near_abs-farther : (n d k : ℕ) → 0 < d → apart n (k * d) ≡ apart n (near_abs n d * d) → k ≤ near_abs n d
near_abs-farther n d k h e = elim (cases_order k (near_abs n d)) [
  | inl same ↦ omega arith
  | inr (inl less) ↦ omega arith
  | inr (inr more) ↦
      let step : (near_abs n d + 1) * d ≤ k * d = mul-le-mul_right d (omega arith) in
      absurd (omega (arith, near_abs-low n d h, near_abs-high n d h))
]

pub near_abs-none : (n : ℕ) → near_abs n 0 ≡ 0
unfolding near_abs
near_abs-none n = div-zero (2 * n + 0)

pub near_abs-zero : (d : ℕ) → near_abs 0 d ≡ 0
near_abs-zero zero = near_abs-none 0
near_abs-zero (suc d) = near_abs_is 0 (suc d) 0 (omega arith) (omega arith)

pub near_abs-le : (n d : ℕ) → near_abs n d ≤ n
near_abs-le zero d = rw (near_abs-zero d) (omega arith)
near_abs-le (suc n) zero = rw (near_abs-none (suc n)) (omega arith)
near_abs-le (suc n) (suc d) = elim (cases_lt (suc n) (near_abs (suc n) (suc d))) [
  | inl more ↦
      let step : (suc n + 1) * suc d ≤ near_abs (suc n) (suc d) * suc d = mul-le-mul_right (suc d) (omega arith) in
      let most : suc n * 1 ≤ suc n * suc d = mul-le-mul_left (suc n) (omega arith) in
      absurd (omega (arith, near_abs-low (suc n) (suc d) (omega arith)))
  | inr less ↦ less
]

pub near_abs-mono : (m n d : ℕ) → m ≤ n → near_abs m d ≤ near_abs n d
near_abs-mono m n zero h = rw (near_abs-none m, near_abs-none n) (omega arith)
near_abs-mono m n (suc d) h = elim (cases_lt (near_abs n (suc d)) (near_abs m (suc d))) [
  | inl more ↦
      let step : (near_abs n (suc d) + 1) * suc d ≤ near_abs m (suc d) * suc d = mul-le-mul_right (suc d) (omega arith) in
      absurd (omega (arith, near_abs-low m (suc d) (omega arith), near_abs-high n (suc d) (omega arith)))
  | inr less ↦ less
]

-- by an even divisor, half of it is added and the quotient is whole
pub near_abs-even : (n h : ℕ) → 0 < h → near_abs n (2 * h) ≡ (n + h) / (2 * h)
near_abs-even n h some =
    let twice : 0 < 2 * h = omega arith in
    near_abs_is n (2 * h) ((n + h) / (2 * h))
    (omega (arith, div-mul-le_self (n + h) (2 * h)))
    (omega (arith, lt-div-mul-add {a = n + h} {b = 2 * h} twice))

-- ---- with signs

pub unsigned_abs-near : (a b : ℤ) → unsigned_abs (near a b) ≡ near_abs (unsigned_abs a) (unsigned_abs b)
unfolding near
unsigned_abs-near (pos a) (pos b) = refl
unsigned_abs-near (pos a) (negsuc b) = omega (arith, ints)
unsigned_abs-near (negsuc a) (pos b) = omega (arith, ints)
unsigned_abs-near (negsuc a) (negsuc b) = refl

-- the magnitude doesn't grow
pub unsigned_abs-near-le : (a b : ℤ) → unsigned_abs (near a b) ≤ unsigned_abs a
unsigned_abs-near-le a b = rw (unsigned_abs-near a b) (near_abs-le (unsigned_abs a) (unsigned_abs b))

pub near-zero : (b : ℤ) → near (pos 0) b ≡ pos 0
unfolding near
near-zero (pos b) = rw (near_abs-zero b) refl
near-zero (negsuc b) = rw (near_abs-zero (suc b)) refl

-- by a divisor above 0 the sign stays
pub near-from_zero : (a : ℤ) (d : ℕ) → pos 0 ≤ℤ a → near a (pos d) ≡ pos (near_abs (unsigned_abs a) d)
unfolding near
near-from_zero (pos a) d h = refl
near-from_zero (negsuc a) d h = absurd (omega (arith, ints))

pub near-below_zero : (a : ℤ) (d : ℕ) → a <ℤ pos 0 → near a (pos d) ≡ neg_ℤ (pos (near_abs (unsigned_abs a) d))
unfolding near
near-below_zero (pos a) d h = absurd (omega (arith, ints))
near-below_zero (negsuc a) d h = refl

-- by one below 0 it turns
pub near-turned : (a b : ℤ) → b <ℤ pos 0 → near a b ≡ neg_ℤ (near a (pos (unsigned_abs b)))
unfolding near
near-turned (pos a) (pos b) h = absurd (omega (arith, ints))
near-turned (pos a) (negsuc b) h = refl
near-turned (negsuc a) (pos b) h = absurd (omega (arith, ints))
near-turned (negsuc a) (negsuc b) h = omega (arith, ints)

pub near-positive : (a b : ℤ) → pos 0 ≤ℤ b → near a b ≡ near a (pos (unsigned_abs b))
near-positive a (pos b) h = refl
near-positive a (negsuc b) h = absurd (omega (arith, ints))

pub near-neg : (a b : ℤ) → near (neg_ℤ a) b ≡ neg_ℤ (near a b)
unfolding near
near-neg (pos zero) (pos b) = rw (near_abs-zero b) refl
near-neg (pos zero) (negsuc b) = rw (near_abs-zero (suc b)) refl
near-neg (pos (suc a)) (pos b) = refl
near-neg (pos (suc a)) (negsuc b) = omega (arith, ints)
near-neg (negsuc a) (pos b) = omega (arith, ints)
near-neg (negsuc a) (negsuc b) = refl

-- it keeps the order
pub near-mono : (a c b : ℤ) → pos 0 <ℤ b → a ≤ℤ c → near a b ≤ℤ near c b
unfolding near
near-mono (pos a) (pos c) (pos b) above h = omega (arith, ints, near_abs-mono a c b (omega (arith, ints)))
near-mono (pos a) (negsuc c) (pos b) above h = absurd (omega (arith, ints))
near-mono (negsuc a) (pos c) (pos b) above h = omega (arith, ints)
near-mono (negsuc a) (negsuc c) (pos b) above h = omega (arith, ints, near_abs-mono (suc c) (suc a) b (omega (arith, ints)))
near-mono a c (negsuc b) above h = absurd (omega (arith, ints))

-- ---- it is the nearest

-- what is left, where the product has the sign of a, or is 0
rest-like : (a p : ℤ) (m : ℕ) → unsigned_abs p ≡ m → (pos 0 ≤ℤ a → pos 0 ≤ℤ p) → (a <ℤ pos 0 → p ≤ℤ pos 0) → unsigned_abs (a -ℤ p) ≡ apart (unsigned_abs a) m
rest-like (pos a) p m is above below = let sign = above (omega (arith, ints)) in omega (arith, ints)
rest-like (negsuc a) p m is above below = let sign = below (omega (arith, ints)) in omega (arith, ints)

rest-apart : (a b y : ℤ) → apart (unsigned_abs a) (unsigned_abs y * unsigned_abs b) ≤ rest a b y
rest-apart a b y = omega (arith, ints, unsigned_abs-mul y b)

pub some_magnitude : (b : ℤ) → b ≢ pos 0 → 0 < unsigned_abs b
some_magnitude (pos zero) h = absurd (h refl)
some_magnitude (pos (suc b)) h = omega arith
some_magnitude (negsuc b) h = omega (arith, ints)

times_below : (m b : ℕ) → pos 0 ≤ℤ (neg_ℤ (pos m) *ℤ negsuc b)
times_below zero b = omega (arith, ints)
times_below (suc m) b = omega (arith, ints)

times_above : (m b : ℕ) → (neg_ℤ (pos m) *ℤ pos b) ≤ℤ pos 0
times_above zero b = omega (arith, ints)
times_above (suc m) b = omega (arith, ints)

product-above : (a b : ℤ) → pos 0 ≤ℤ a → pos 0 ≤ℤ (near a b *ℤ b)
unfolding near
product-above (pos a) (pos b) h = omega (arith, ints)
product-above (pos a) (negsuc b) h = times_below (near_abs a (suc b)) b
product-above (negsuc a) b h = absurd (omega (arith, ints))

product-below : (a b : ℤ) → a <ℤ pos 0 → (near a b *ℤ b) ≤ℤ pos 0
unfolding near
product-below (negsuc a) (pos b) h = times_above (near_abs (suc a) b) b
product-below (negsuc a) (negsuc b) h = omega (arith, ints)
product-below (pos a) b h = absurd (omega (arith, ints))

rest-near : (a b : ℤ) → rest a b (near a b) ≡ apart (unsigned_abs a) (near_abs (unsigned_abs a) (unsigned_abs b) * unsigned_abs b)
rest-near a b = rest-like a (near a b *ℤ b) _ (unsigned_abs-mul (near a b) b ∙ ap (λ (m : ℕ). m * unsigned_abs b) (unsigned_abs-near a b)) (product-above a b) (product-below a b)

-- what is left is at most half the divisor
pub near-rest : (a b : ℤ) → b ≢ pos 0 → 2 * rest a b (near a b) ≤ unsigned_abs b
near-rest a b nonzero = rw (rest-near a b) (omega (arith, near_abs-low (unsigned_abs a) (unsigned_abs b) (some_magnitude b nonzero), near_abs-high (unsigned_abs a) (unsigned_abs b) (some_magnitude b nonzero)))

pub near-nearest : (a b : ℤ) → b ≢ pos 0 → IsNearest a b (near a b)
near-nearest a b nonzero =
    let some = some_magnitude b nonzero in
    record {
      least = λ y. rw (rest-near a b) (omega (arith, apart-near_abs (unsigned_abs a) (unsigned_abs b) (unsigned_abs y) some, rest-apart a b y));
      farther = λ y e. rw (unsigned_abs-near a b) (near_abs-farther (unsigned_abs a) (unsigned_abs b) (unsigned_abs y) some
          (omega (arith, e, rest-near a b, rest-apart a b y, apart-near_abs (unsigned_abs a) (unsigned_abs b) (unsigned_abs y) some)));
    }
