-- Laws of the square root.
use Rattle.std.proofs.Common.{◌≡◌, ap, ℕ, zero, suc, ◌+◌, ◌*◌, ◌<◌, ◌≤◌, nat_le, ℤ, pos, negsuc, ◌*ℤ◌, ◌≤ℤ◌, unsigned_abs, Bool, true, false, inl, inr, refl, arith}
use Rattle.std.specs.Prelude.{if◌then◌else◌}
use Rattle.std.proofs.lemmas.Bool.{cases_lt}
use Rattle.std.proofs.lemmas.Bool.Decides.{nat_tests}
use Rattle.std.proofs.lemmas.Int.{ints}
use Rattle.std.proofs.lemmas.Nat.{mul-le}
use Rattle.emtp_fix.specs.Root.{root_upto, isqrt}

-- ---- over whole numbers without sign

square-mono : (a b : ℕ) → a ≤ b → a * a ≤ b * b
square-mono a b h = mul-le a a b b h h

test_true : (a b : ℕ) → nat_le a b ≡ true → a ≤ b
test_true a b h = grind (arith, nat_tests)

test_false : (a b : ℕ) → nat_le a b ≡ false → b < a
test_false a b h = grind (arith, nat_tests)

root_step : (n r k below : ℕ) (test : Bool) → nat_le (suc k * suc k) n ≡ test → r * r ≤ n → ((s : ℕ) → s * s ≤ n → s ≤ r) → r ≤ suc k → (r ≤ k → below ≡ r) → (if test then suc k else below) ≡ r
root_step n r k below true is square greatest within ih =
    let le : suc k ≤ r = greatest (suc k) (test_true (suc k * suc k) n is) in
    omega arith
root_step n r k below false is square greatest within ih =
    let over : n < suc k * suc k = test_false (suc k * suc k) n is in
    let le : r ≤ k = grind (arith, square-mono (suc k) r) in
    ih le

root_upto_is : (n r k : ℕ) → r * r ≤ n → ((s : ℕ) → s * s ≤ n → s ≤ r) → r ≤ k → root_upto n k ≡ r
unfolding root_upto
root_upto_is n r zero square greatest within = omega arith
root_upto_is n r (suc k) square greatest within = root_step n r k (root_upto n k) (nat_le (suc k * suc k) n) refl square greatest within (root_upto_is n r k square greatest)

root-within : (n r : ℕ) → r * r ≤ n → r ≤ n
root-within n zero square = omega arith
root-within n (suc r) square = omega (arith, mul-le (suc r) 1 (suc r) (suc r) (omega arith) (omega arith))

low_step : (n k below : ℕ) (test : Bool) → nat_le (suc k * suc k) n ≡ test → below * below ≤ n → (if test then suc k else below) * (if test then suc k else below) ≤ n
low_step n k below true is ih = test_true (suc k * suc k) n is
low_step n k below false is ih = ih

root_upto-square : (n k : ℕ) → root_upto n k * root_upto n k ≤ n
unfolding root_upto
root_upto-square n zero = omega arith
root_upto-square n (suc k) = low_step n k (root_upto n k) (nat_le (suc k * suc k) n) refl (root_upto-square n k)

high_step : (n k below s : ℕ) (test : Bool) → nat_le (suc k * suc k) n ≡ test → s * s ≤ n → s ≤ suc k → (s ≤ k → s ≤ below) → s ≤ (if test then suc k else below)
high_step n k below s true is square within ih = within
high_step n k below s false is square within ih =
    let over : n < suc k * suc k = test_false (suc k * suc k) n is in
    let le : s ≤ k = grind (arith, square-mono (suc k) s) in
    ih le

root_upto-greatest : (n k s : ℕ) → s * s ≤ n → s ≤ k → s ≤ root_upto n k
unfolding root_upto
root_upto-greatest n zero s square within = within
root_upto-greatest n (suc k) s square within = high_step n k (root_upto n k) s (nat_le (suc k * suc k) n) refl square within (root_upto-greatest n k s square)

-- ---- with signs

-- what is at least 0, has a square of at most x and is no less than any other such number is the root
pub isqrt_is : (x r : ℤ) → pos 0 ≤ℤ x → pos 0 ≤ℤ r → (r *ℤ r) ≤ℤ x → ((s : ℤ) → (s *ℤ s) ≤ℤ x → s ≤ℤ r) → isqrt x ≡ r
unfolding isqrt
isqrt_is (pos n) (pos r) low sign square greatest =
    let below : r * r ≤ n = omega (arith, ints, square) in
    ap pos (root_upto_is n r n below (λ s h. omega (arith, ints, greatest (pos s) (omega (arith, ints)))) (root-within n r below))
isqrt_is (pos n) (negsuc r) low sign square greatest = absurd (omega (arith, ints))
isqrt_is (negsuc n) r low sign square greatest = absurd (omega (arith, ints))

-- and so is a number whose square is at most x, and that of the next one above it
pub isqrt_between : (x : ℤ) (n : ℕ) → pos 0 ≤ℤ x → n * n ≤ unsigned_abs x → unsigned_abs x < (n + 1) * (n + 1) → isqrt x ≡ pos n
unfolding isqrt
isqrt_between (pos m) n low square over = ap pos (root_upto_is m n m square (λ s h. most s h) (root-within m n square))
  where
    most : (s : ℕ) → s * s ≤ m → s ≤ n
    most s h = elim (cases_lt n s) [
      | inl past ↦ let more = square-mono (n + 1) s (omega arith) in absurd (omega (arith, more, h, over))
      | inr within ↦ within
    ]
isqrt_between (negsuc m) n low square over = absurd (omega (arith, ints))

pub isqrt-nonneg : (x : ℤ) → pos 0 ≤ℤ isqrt x
unfolding isqrt
isqrt-nonneg (pos n) = omega (arith, ints)
isqrt-nonneg (negsuc n) = omega (arith, ints)

pub isqrt-square : (x : ℤ) → pos 0 ≤ℤ x → (isqrt x *ℤ isqrt x) ≤ℤ x
unfolding isqrt
isqrt-square (pos n) low = let square = root_upto-square n n in omega (arith, ints, square)
isqrt-square (negsuc n) low = absurd (omega (arith, ints))

pub isqrt-greatest : (x s : ℤ) → pos 0 ≤ℤ x → (s *ℤ s) ≤ℤ x → s ≤ℤ isqrt x
unfolding isqrt
isqrt-greatest (pos n) (pos s) low square =
    let below : s * s ≤ n = omega (arith, ints, square) in
    omega (arith, ints, root_upto-greatest n n s below (root-within n s below))
isqrt-greatest (pos n) (negsuc s) low square = omega (arith, ints)
isqrt-greatest (negsuc n) s low square = absurd (omega (arith, ints))

-- a root is at most m where what it is taken of is at most m times m
pub isqrt-within : (x : ℤ) (m : ℕ) → unsigned_abs x ≤ m * m → unsigned_abs (isqrt x) ≤ m
unfolding isqrt
isqrt-within (pos n) m small = elim (cases_lt m (root_upto n n)) [
  | inl past ↦
      let more = square-mono (m + 1) (root_upto n n) (omega arith) in
      absurd (omega (arith, more, root_upto-square n n, small))
  | inr within ↦ within
]
isqrt-within (negsuc n) m small = omega arith

-- it keeps the order
pub isqrt-mono : (x y : ℤ) → pos 0 ≤ℤ x → x ≤ℤ y → isqrt x ≤ℤ isqrt y
isqrt-mono x y low h = isqrt-greatest y (isqrt x) (omega (arith, ints, low, h)) (omega (arith, ints, isqrt-square x low, h))
