-- The running sum of squares: what comes and what goes.
use Rattle.std.proofs.Common.{◌≡◌, ap, refl, ℕ, zero, suc, ◌-◌, ◌*◌, ◌^◌, ◌≤◌, ℤ, pos, negsuc, ◌+ℤ◌, ◌*ℤ◌, ◌≤ℤ◌, unsigned_abs, List, [], ◌∷◌, All, length, take, arith}
use Rattle.std.proofs.lemmas.Int.{ints}
use Rattle.emtp_devices.specs.Device.{square, sum_of_squares}
use Rattle.emtp_fix.proofs.Quotients.{near-nonneg, near-product, near-small}
use Rattle.emtp_fix.proofs.Nearest.{near-zero}
use Rattle.emtp_fix.specs.Rounding.{near}
use Rattle.emtp_fix.specs.declared.limit.TheConstants.{LARGEST_VALUE, NANO}
use Rattle.emtp_hist.specs.History.{value_before}

product-nonneg : (s : ℤ) → pos 0 ≤ℤ (s *ℤ s)
product-nonneg (pos a) = omega (arith, ints)
product-nonneg (negsuc a) = omega (arith, ints)

pub square-nonneg : (s : ℤ) → pos 0 ≤ℤ square s
square-nonneg s = near-nonneg (s *ℤ s) NANO (product-nonneg s) (omega (arith, ints))

pub square-small : (s : ℤ) → unsigned_abs s ≤ LARGEST_VALUE → unsigned_abs (square s) ≤ 10 ^ 27
square-small s small = near-product s s NANO (10 ^ 18) (10 ^ 18) (10 ^ 9) (10 ^ 27) small small (omega arith) (omega arith)

pub squares-nonneg : (xs : List ℤ) → pos 0 ≤ℤ sum_of_squares xs
squares-nonneg [] = omega (arith, ints)
squares-nonneg (x ∷ xs) = omega (arith, ints, square-nonneg x, squares-nonneg xs)

pub squares-small : (xs : List ℤ) → All (λ s. unsigned_abs s ≤ LARGEST_VALUE) xs → unsigned_abs (sum_of_squares xs) ≤ length xs * 10 ^ 27
squares-small [] small = omega (arith, ints)
squares-small (x ∷ xs) small =
    let here : unsigned_abs (square x) ≤ 10 ^ 27 = square-small x (small 0 (pos 0) (omega arith)) in
    let others : unsigned_abs (sum_of_squares xs) ≤ length xs * 10 ^ 27 = squares-small xs (λ i d there. small (suc i) d (omega (arith, there))) in
    omega (arith, ints, here, others)

pub square-zero : square (pos 0) ≡ pos 0
square-zero = near-zero NANO

-- without the oldest of j + 1
without_oldest : (j : ℕ) (xs : List ℤ) → length xs ≤ suc j → sum_of_squares (take j xs) +ℤ square (value_before xs j) ≡ sum_of_squares xs
without_oldest zero [] short = ap (λ z. pos 0 +ℤ z) square-zero
without_oldest (suc j) [] short = ap (λ z. pos 0 +ℤ z) square-zero
without_oldest zero (x ∷ []) short = omega (arith, ints)
without_oldest zero (x ∷ y ∷ xs) short = absurd (omega (arith, short))
without_oldest (suc j) (x ∷ xs) short = omega (arith, ints, without_oldest j xs (omega (arith, short)))

-- an input comes, and the oldest of k goes
pub squares-exchanged : (k : ℕ) (s : ℤ) (xs : List ℤ) → 1 ≤ k → length xs ≤ k → sum_of_squares (take k (s ∷ xs)) +ℤ square (value_before xs (k - 1)) ≡ sum_of_squares xs +ℤ square s
squares-exchanged zero s xs some short = absurd (omega (arith, some))
squares-exchanged (suc j) s xs some short =
    let e : suc j - 1 ≡ j = omega arith in
    rw e (omega (arith, ints, without_oldest j xs short))

-- a mean of so many squares
pub record IsMean (q sum : ℤ) (k : ℕ) : Type 0 where
  pub is : q ≡ near sum (pos k)
  pub small : unsigned_abs q ≤ 10 ^ 27
  pub least : pos 0 ≤ℤ q

pub mean_is : (q sum : ℤ) (k : ℕ) → q ≡ near sum (pos k) → 1 ≤ k → pos 0 ≤ℤ sum → unsigned_abs sum ≤ k * 10 ^ 27 → IsMean q sum k
mean_is q sum k e some least most = rw e (record {
  is = refl;
  small = near-small sum (pos k) (k * 10 ^ 27) k (10 ^ 27) most (omega arith) (omega arith);
  least = near-nonneg sum (pos k) least (omega (arith, ints));
})
