-- Lists under tests that agree on them.
use Rattle.std.proofs.Common.{◌≡◌, ◌+◌, ◌∷◌, ◌||◌, ℕ, List, [], Bool, Some, if◌then◌else◌, map, refl, ap, sym, ◌∙◌}
use Rattle.std.specs.List.{All, count_by, find, list_any}
use Rattle.std.proofs.lemmas.List.Elements.{All-head, All-tail}
use Rattle.std.proofs.lemmas.List.Sums.{sum_by-cons}
use Rattle.emtp_case.specs.declared.row_kind.RowKind.{RowKind}

pub any_same : (f g : ℕ → Bool) (xs : List ℕ) → All (λ x. f x ≡ g x) xs → list_any f xs ≡ list_any g xs
any_same f g [] all = refl
any_same f g (x ∷ xs) all =
    ap (λ b. b || list_any f xs) (All-head (λ x. f x ≡ g x) x xs all) ∙ ap (λ b. g x || b) (any_same f g xs (All-tail (λ x. f x ≡ g x) x xs all))

pub map_same : (f g : ℕ → RowKind) (xs : List ℕ) → All (λ x. f x ≡ g x) xs → map f xs ≡ map g xs
map_same f g [] all = refl
map_same f g (x ∷ xs) all =
    ap (λ k. k ∷ map f xs) (All-head (λ x. f x ≡ g x) x xs all) ∙ ap (λ ks. g x ∷ ks) (map_same f g xs (All-tail (λ x. f x ≡ g x) x xs all))

pub find_same : (f g : ℕ → Bool) (xs : List ℕ) → All (λ x. f x ≡ g x) xs → find f xs ≡ find g xs
find_same f g [] all = refl
find_same f g (x ∷ xs) all =
    ap (λ b. if b then Some x else find f xs) (All-head (λ x. f x ≡ g x) x xs all) ∙ ap (λ o. if g x then Some x else o) (find_same f g xs (All-tail (λ x. f x ≡ g x) x xs all))

pub count_same : (f g : ℕ → Bool) (xs : List ℕ) → All (λ x. f x ≡ g x) xs → count_by f xs ≡ count_by g xs
count_same f g [] all = refl
count_same f g (x ∷ xs) all =
    sum_by-cons (one_if f) x xs ∙ ap (λ b. (if b then 1 else 0) + count_by f xs) (All-head (λ x. f x ≡ g x) x xs all)
    ∙ ap (λ n. one_if g x + n) (count_same f g xs (All-tail (λ x. f x ≡ g x) x xs all)) ∙ sym (sum_by-cons (one_if g) x xs)
  where
    one_if : (ℕ → Bool) → ℕ → ℕ
    one_if h k = if h k then 1 else 0
