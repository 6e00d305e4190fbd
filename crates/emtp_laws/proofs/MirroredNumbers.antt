-- What is made of numbers with the opposite signs.
use Rattle.std.proofs.Common.{◌≡◌, ◌||◌, ℕ, zero, suc, ℤ, pos, neg_ℤ, if◌then◌else◌, Bool, List, [], ◌∷◌, map, refl, ap, arith}
use Rattle.std.specs.List.{list_any}
use Rattle.std.proofs.lemmas.Int.{ints}
use Rattle.emtp_case.specs.Sums.{sum_below}
use Rattle.emtp_elim.proofs.Opposites.{if_turned}

pub any_map : {X Y : Type 0} (p : Y → Bool) (f : X → Y) (xs : List X) → list_any p (map f xs) ≡ list_any (λ x. p (f x)) xs
any_map p f [] = refl
any_map p f (x ∷ xs) = ap (λ b. p (f x) || b) (any_map p f xs)

pub if_zero : (b : Bool) (x : ℤ) → (if b then neg_ℤ x else pos 0) ≡ neg_ℤ (if b then x else pos 0)
if_zero b x = if_turned b x (pos 0) (neg_ℤ x) (pos 0) refl refl

pub sum_turned : (n : ℕ) (f g : ℕ → ℤ) → ((k : ℕ) → g k ≡ neg_ℤ (f k)) → sum_below n g ≡ neg_ℤ (sum_below n f)
sum_turned zero f g h = refl
sum_turned (suc n) f g h = omega (arith, ints, sum_turned n f g h, h n)
