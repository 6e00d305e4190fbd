-- How many of a list pass a test.
use Rattle.std.proofs.Common.{◌≡◌, ◌∙◌, ◌<◌, ◌≤◌, ℕ, zero, suc, if◌then◌else◌, Bool, true, false, List, [], ◌∷◌, length, slice_index, slice_index_or, refl, ap, sym, arith}
use Rattle.std.specs.List.{count_by}
use Rattle.std.proofs.lemmas.Bool.{true≢false}
use Rattle.std.proofs.lemmas.List.Sums.{sum_by-cons}

abbrev one_if : Bool → ℕ
one_if b = if b then 1 else 0

pub one_more : (b : Bool) → b ≡ true → one_if b ≡ 1
one_more true h = refl
one_more false h = absurd (true≢false (sym h))

-- one that passes is counted
pub passes_counted : {X : Type 0} (p : X → Bool) (xs : List X) (j : ℕ) (d s : X) → j < length xs → slice_index_or xs j d ≡ s → p s ≡ true → 1 ≤ count_by p xs
passes_counted p [] j d s inside at on = absurd (omega (arith, inside))
passes_counted p (x ∷ xs) zero d s inside at on = omega (arith, sum_by-cons (λ y. if p y then 1 else 0) x xs, one_more (p x) (ap p at ∙ on))
passes_counted p (x ∷ xs) (suc j) d s inside at on = omega (arith, sum_by-cons (λ y. if p y then 1 else 0) x xs, passes_counted p xs j d s (omega (arith, inside)) at on)

-- and two are counted twice
pub passes_twice : (p : ℕ → Bool) (xs : List ℕ) (i j : ℕ) → i < j → j < length xs → p (slice_index xs i) ≡ true → p (slice_index xs j) ≡ true → 2 ≤ count_by p xs
passes_twice p [] i j less inside one other = absurd (omega (arith, inside))
passes_twice p (x ∷ xs) zero zero less inside one other = absurd (omega (arith, less))
passes_twice p (x ∷ xs) zero (suc j) less inside one other = omega (arith, sum_by-cons (λ y. if p y then 1 else 0) x xs, one_more (p x) one, passes_counted p xs j 0 (slice_index xs j) (omega (arith, inside)) refl other)
passes_twice p (x ∷ xs) (suc i) zero less inside one other = absurd (omega (arith, less))
passes_twice p (x ∷ xs) (suc i) (suc j) less inside one other = omega (arith, sum_by-cons (λ y. if p y then 1 else 0) x xs, passes_twice p xs i j (omega (arith, less)) (omega (arith, inside)) one other)
