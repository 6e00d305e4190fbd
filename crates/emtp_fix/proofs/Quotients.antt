-- How large rounded quotients are, of what sign, and which are exact. What a crate above needs of its own quotients.
use Rattle.std.proofs.Common.{◌≡◌, ◌≢◌, ◌∙◌, ap, ℕ, zero, suc, ◌+◌, ◌*◌, ◌^◌, ◌<◌, ◌≤◌, ◌⊎◌, ℤ, pos, negsuc, neg_ℤ, ◌+ℤ◌, ◌-ℤ◌, ◌*ℤ◌, ◌≤ℤ◌, unsigned_abs, inl, inr, arith}
use Rattle.std.proofs.lemmas.Bool.{cases_lt}
use Rattle.std.proofs.lemmas.Int.{ints, unsigned_abs-mul}
use Rattle.std.proofs.Math.Nat.{mul-le-mul_right, mul-le-mul_left, mul_comm}
use Rattle.std.proofs.Math.IntN.{*ℤ_comm}
use Rattle.emtp_fix.specs.Rounding.{near, near_abs}
use Rattle.emtp_fix.specs.declared.limit.TheConstants.{LEAST_IMPEDANCE, LARGEST_ENTRY, ATTO}
use Rattle.emtp_fix.proofs.Nearest.{near_abs-low, near_abs-none, near_abs_is, unsigned_abs-near, near-positive, near-from_zero, near-zero, near-neg, near-rest, some_magnitude}
use Rattle.emtp_fix.proofs.Wide.{abs-mul-le, mul_neg, mul_add}

-- ---- how large

-- a rounded quotient is at most m where its dividend is at most m divisors
pub near_abs-within : (n d m : ℕ) → n ≤ m * d → near_abs n d ≤ m
near_abs-within n zero m h = rw (near_abs-none n) (omega arith)
near_abs-within n (suc d) m h = elim (cases_lt m (near_abs n (suc d))) [
  | inl past ↦
      let more : (m + 1) * suc d ≤ near_abs n (suc d) * suc d = mul-le-mul_right (suc d) (omega arith) in
      absurd (omega (arith, more, h, near_abs-low n (suc d) (omega arith)))
  | inr within ↦ within
]

pub near-within : (x d : ℤ) (m : ℕ) → unsigned_abs x ≤ m * unsigned_abs d → unsigned_abs (near x d) ≤ m
near-within x d m h = omega (arith, unsigned_abs-near x d, near_abs-within (unsigned_abs x) (unsigned_abs d) m h)

-- the same, where a bound on the dividend and one on the divisor are numbers
pub near-small : (x d : ℤ) (n k m : ℕ) → unsigned_abs x ≤ n → k ≤ unsigned_abs d → n ≤ m * k → unsigned_abs (near x d) ≤ m
near-small x d n k m small large fits =
    let most : k * m ≤ unsigned_abs d * m = mul-le-mul_right m large in
    near-within x d m (omega (arith, small, fits, most, mul_comm k m, mul_comm (unsigned_abs d) m))

-- and of a product
pub near-product : (a b d : ℤ) (m n k l : ℕ) → unsigned_abs a ≤ m → unsigned_abs b ≤ n → k ≤ unsigned_abs d → m * n ≤ l * k → unsigned_abs (near (a *ℤ b) d) ≤ l
near-product a b d m n k l small_a small_b large fits = near-small (a *ℤ b) d (m * n) k l (abs-mul-le a b m n small_a small_b) large fits

-- no share of a number exceeds it
pub near-share : (a part whole : ℤ) (m : ℕ) → unsigned_abs a ≤ m → unsigned_abs part ≤ unsigned_abs whole → unsigned_abs (near (a *ℤ part) whole) ≤ m
near-share a part whole m small within = near-within (a *ℤ part) whole m (abs-mul-le a part m (unsigned_abs whole) small within)

-- ---- of what sign

pub near-nonneg : (a b : ℤ) → pos 0 ≤ℤ a → pos 0 ≤ℤ b → pos 0 ≤ℤ near a b
near-nonneg a b low low' =
    let is : near a b ≡ pos (near_abs (unsigned_abs a) (unsigned_abs b)) = near-positive a b low' ∙ near-from_zero a (unsigned_abs b) low in
    omega (arith, ints, is)

-- the factor turned, the quotient turns
pub near-mul_neg : (a b d : ℤ) → near (a *ℤ neg_ℤ b) d ≡ neg_ℤ (near (a *ℤ b) d)
near-mul_neg a b d = ap (λ z. near z d) (mul_neg a b) ∙ near-neg (a *ℤ b) d

-- ---- which are exact

pub near-exact : (z : ℤ) (d : ℕ) → 0 < d → near (z *ℤ pos d) (pos d) ≡ z
near-exact (pos n) d some = near-from_zero (pos (n * d)) d (omega (arith, ints)) ∙ ap pos (near_abs_is (n * d) d n (omega arith) (omega (arith, some)))
near-exact (negsuc n) zero some = absurd (omega (arith, some))
near-exact (negsuc n) (suc d) some =
    near-neg (pos (suc n * suc d)) (pos (suc d))
    ∙ ap neg_ℤ (near-from_zero (pos (suc n * suc d)) (suc d) (omega (arith, ints)) ∙ ap pos (near_abs_is (suc n * suc d) (suc d) (suc n) (omega arith) (omega (arith, some))))

-- a product with 0
pub near-times_zero : (a d : ℤ) → near (a *ℤ pos 0) d ≡ pos 0
near-times_zero a d = let none : a *ℤ pos 0 ≡ pos 0 = omega (arith, ints) in ap (λ z. near z d) none ∙ near-zero d

pub near-zero_times : (a d : ℤ) → near (pos 0 *ℤ a) d ≡ pos 0
near-zero_times a d = let none : pos 0 *ℤ a ≡ pos 0 = omega (arith, ints) in ap (λ z. near z d) none ∙ near-zero d

-- two quotients rounded apart differ by at most 1 from that of the sum
pub near-apart : (x y d : ℤ) → d ≢ pos 0 → unsigned_abs ((near x d +ℤ near y d) -ℤ near (x +ℤ y) d) ≤ 1
near-apart x y d some =
    let apart = (near x d +ℤ near y d) -ℤ near (x +ℤ y) d in
    let whole = mul_add d (near x d +ℤ near y d) (neg_ℤ (near (x +ℤ y) d)) in
    let sum = mul_add d (near x d) (near y d) in
    let size : 2 * unsigned_abs (d *ℤ apart) ≤ 3 * unsigned_abs d = omega (
      arith,
      ints,
      whole,
      sum,
      mul_neg d (near (x +ℤ y) d),
      *ℤ_comm d (near x d),
      *ℤ_comm d (near y d),
      *ℤ_comm d (near (x +ℤ y) d),
      near-rest x d some,
      near-rest y d some,
      near-rest (x +ℤ y) d some,
    ) in
    elim (cases_lt 1 (unsigned_abs apart)) [
      | inl more ↦
          let most : unsigned_abs d * 2 ≤ unsigned_abs d * unsigned_abs apart = mul-le-mul_left (unsigned_abs d) more in
          absurd (omega (arith, size, most, unsigned_abs-mul d apart, some_magnitude d some))
      | inr less ↦ less
    ]

-- ---- a conductance

-- the conductance in pS of an impedance in micro-ohm that isn't too small
pub conductance-small : (z : ℤ) → LEAST_IMPEDANCE ≤ unsigned_abs z → unsigned_abs (near ATTO z) ≤ LARGEST_ENTRY
conductance-small z h = near-small ATTO z (10 ^ 18) 10 (10 ^ 17) (omega arith) h (omega arith)

-- ---- between two numbers

-- a part of a rise has the sign of the rise and is no larger
pub record IsPart (rise part : ℤ) : Type 0 where
  pub size : unsigned_abs part ≤ unsigned_abs rise
  pub up : pos 0 ≤ℤ rise → pos 0 ≤ℤ part
  pub down : rise ≤ℤ pos 0 → part ≤ℤ pos 0

part_of : (f m : ℕ) (rise : ℤ) → f ≤ m → IsPart rise (near (pos f *ℤ rise) (pos m))
part_of f m (pos d) h =
    let is : near (pos (f * d)) (pos m) ≡ pos (near_abs (f * d) m) = near-from_zero (pos (f * d)) m (omega (arith, ints)) in
    let size = near_abs-within (f * d) m d (let s : f * d ≤ m * d = mul-le-mul_right d h in omega (arith, s)) in
    record { size = omega (arith, ints, is, size); up = λ low. omega (arith, ints, is); down = λ high. omega (arith, ints, is, size) }
part_of f m (negsuc d) h =
    let is : near (pos (f * suc d)) (pos m) ≡ pos (near_abs (f * suc d) m) = near-from_zero (pos (f * suc d)) m (omega (arith, ints)) in
    let turned : near (neg_ℤ (pos (f * suc d))) (pos m) ≡ neg_ℤ (near (pos (f * suc d)) (pos m)) = near-neg (pos (f * suc d)) (pos m) in
    let size = near_abs-within (f * suc d) m (suc d) (let s : f * suc d ≤ m * suc d = mul-le-mul_right (suc d) h in omega (arith, s)) in
    record { size = omega (arith, ints, is, turned, size); up = λ low. absurd (omega (arith, ints)); down = λ high. omega (arith, ints, is, turned) }

pub near-part : (part whole rise : ℤ) → pos 0 ≤ℤ part → part ≤ℤ whole → IsPart rise (near (part *ℤ rise) whole)
near-part (pos f) (pos m) rise low high = part_of f m rise (omega (arith, ints, high))
near-part (pos f) (negsuc m) rise low high = absurd (omega (arith, ints))
near-part (negsuc f) whole rise low high = absurd (omega (arith, ints))

sign_of : (d : ℤ) → (pos 0 ≤ℤ d) ⊎ (d ≤ℤ pos 0)
sign_of (pos n) = inl (omega (arith, ints))
sign_of (negsuc n) = inr (omega (arith, ints))

-- what lies between a and b, a part of the way from a on, is bounded by what bounds both
pub between-low : (part whole a b low : ℤ) → pos 0 ≤ℤ part → part ≤ℤ whole → low ≤ℤ a → low ≤ℤ b → low ≤ℤ (a +ℤ near (part *ℤ (b -ℤ a)) whole)
between-low part whole a b low least most at_a at_b =
    let is = near-part part whole (b -ℤ a) least most in
    elim (sign_of (b -ℤ a)) [
      | inl up ↦ let above = is.up up in omega (arith, ints, above, at_a)
      | inr down ↦ let below = is.down down in omega (arith, ints, is.size, below, down, at_a, at_b)
    ]

pub between-high : (part whole a b high : ℤ) → pos 0 ≤ℤ part → part ≤ℤ whole → a ≤ℤ high → b ≤ℤ high → (a +ℤ near (part *ℤ (b -ℤ a)) whole) ≤ℤ high
between-high part whole a b high least most at_a at_b =
    let is = near-part part whole (b -ℤ a) least most in
    elim (sign_of (b -ℤ a)) [
      | inl up ↦ let above = is.up up in omega (arith, ints, is.size, above, up, at_a, at_b)
      | inr down ↦ let below = is.down down in omega (arith, ints, below, at_a)
    ]

pub between-within : (part whole a b : ℤ) (m : ℕ) → pos 0 ≤ℤ part → part ≤ℤ whole → unsigned_abs a ≤ m → unsigned_abs b ≤ m → unsigned_abs (a +ℤ near (part *ℤ (b -ℤ a)) whole) ≤ m
between-within part whole a b m least most at_a at_b =
    let low = between-low part whole a b (neg_ℤ (pos m)) least most (omega (arith, ints, at_a)) (omega (arith, ints, at_b)) in
    let high = between-high part whole a b (pos m) least most (omega (arith, ints, at_a)) (omega (arith, ints, at_b)) in
    omega (arith, ints, low, high)
