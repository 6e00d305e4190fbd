-- What is joined, place by place.
use Rattle.std.proofs.Common.{◌≡◌, ◌∙◌, sym, ap, ℕ, zero, suc, ◌+◌, ◌<◌, ◌≤◌, List, [], ◌∷◌, ◌++◌, length, get_or, refl, arith, append_assoc, append-nil, length-append, inl, inr}
use Rattle.std.proofs.lemmas.Bool.{cases_order}
use Rattle.std.proofs.lemmas.List.{get_or-append-add, get_or_append_left}
use Rattle.emtp_comtrade.specs.Record.{joined}

-- those below one place, and then others
pub record Later {A : Type 0} (n k : ℕ) (at : ℕ → List A) : Type 0 where
  pub rest : List A
  pub split : joined n at ≡ joined k at ++ rest

pub later : {A : Type 0} (n k : ℕ) (at : ℕ → List A) → k ≤ n → Later n k at
later zero k at le = record { rest = []; split = none k (omega arith) }
  where
    none : (k : ℕ) → k ≡ 0 → [] ≡ joined k at ++ []
    none k e = sym (ap (λ (j : ℕ). joined j at ++ []) e)
later {A = A} (suc n) k at le = elim (cases_order k (suc n)) as (λ _. Later (suc n) k at) [
  | inl same ↦ record { rest = []; split = sym (append-nil (joined (suc n) at)) ∙ sym (ap (λ (j : ℕ). joined j at ++ []) same) }
  | inr (inl below) ↦
      let before = later n k at (omega arith) in
      record { rest = before.rest ++ at n; split = ap (λ (xs : List A). xs ++ at n) before.split ∙ append_assoc (joined k at) before.rest (at n) }
  | inr (inr above) ↦ absurd (omega arith)
]

-- one a place
pub length-joined : {A : Type 0} (at : ℕ → A) (n : ℕ) → length (joined n (λ k. at k ∷ [])) ≡ n
length-joined at zero = refl
length-joined at (suc n) = omega (arith, length-append (joined n (λ k. at k ∷ [])) (at n ∷ []), length-joined at n)

pub joined-at : {A : Type 0} (at : ℕ → A) (n k : ℕ) (other : A) → k < n → get_or (joined n (λ j. at j ∷ [])) k other ≡ at k
joined-at at zero k other less = absurd (omega arith)
joined-at {A = A} at (suc n) k other less = elim (cases_order k n) as (λ _. get_or (joined (suc n) (λ j. at j ∷ [])) k other ≡ at k) [
  | inl same ↦
      ap (λ (j : ℕ). get_or (joined n (λ j. at j ∷ []) ++ at n ∷ []) j other) (same ∙ sym (length-joined at n) ∙ none (length (joined n (λ j. at j ∷ []))))
      ∙ get_or-append-add (joined n (λ j. at j ∷ [])) (at n ∷ []) 0 other
      ∙ ap at (sym same)
  | inr (inl below) ↦
      get_or_append_left (joined n (λ j. at j ∷ [])) (at n ∷ []) other k (omega (arith, length-joined at n, below))
      ∙ joined-at at n k other below
  | inr (inr above) ↦ absurd (omega arith)
]
  where
    none : (k : ℕ) → k ≡ k + 0
    none k = omega arith

-- what is the same at each place
pub joined-same : {A : Type 0} (at other : ℕ → List A) (n : ℕ) → ((k : ℕ) → k < n → at k ≡ other k) → joined n at ≡ joined n other
joined-same at other zero each = refl
joined-same {A = A} at other (suc n) each =
    ap (λ (xs : List A). xs ++ at n) (joined-same at other n (λ k less. each k (omega arith)))
    ∙ ap (λ (xs : List A). joined n other ++ xs) (each n (omega arith))
