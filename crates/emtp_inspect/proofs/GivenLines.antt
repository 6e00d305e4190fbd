-- What cards give, line by line.
use Rattle.std.proofs.Common.{◌≡◌, ◌++◌, ◌∙◌, ◌+◌, ◌≤◌, ◌⊎◌, inl, inr, min, length, refl, arith, sym, ap, List, [], ◌∷◌, ℕ, append_assoc, drop, Some}
use Rattle.std.specs.Prelude.{slice_get}
use Rattle.std.proofs.lemmas.List.{drop_all, append-nil}
use Rattle.emtp_inspect.specs.EachCard.{given_from}
use Rattle.emtp_walk.specs.declared.kind.Kind.{Kind}
use Rattle.emtp_walk.specs.declared.kind.LineReading.{LineReading}
use Rattle.emtp_warnings.proofs.Growing.{drop_next, lesser}

-- one line more
pub line-more : {X : Type 0} (given : ℕ → List ℕ → Kind → List X) (readings : List LineReading) (cards : List (List ℕ)) (at : ℕ) (kind : LineReading) (line : List ℕ) (out new whole : List X)
    → slice_get readings at ≡ Some kind → slice_get cards at ≡ Some line → out ++ given_from given (at + 1) (drop at readings) (drop at cards) ≡ whole
    → new ≡ out ++ given (at + 1) line kind.kind → new ++ given_from given (at + 1 + 1) (drop (at + 1) readings) (drop (at + 1) cards) ≡ whole
line-more {X = X} given readings cards at kind line out new whole read found h put =
    ap (λ (t : List X). t ++ given_from given (at + 1 + 1) (drop (at + 1) readings) (drop (at + 1) cards)) put
    ∙ append_assoc out (given (at + 1) line kind.kind) (given_from given (at + 1 + 1) (drop (at + 1) readings) (drop (at + 1) cards))
    ∙ sym (ap (λ (lines : List (List ℕ)). out ++ given_from given (at + 1) (kind ∷ drop (at + 1) readings) lines) (drop_next cards at line found))
    ∙ sym (ap (λ (ks : List LineReading). out ++ given_from given (at + 1) ks (drop at cards)) (drop_next readings at kind read))
    ∙ h

none-left : {X : Type 0} (given : ℕ → List ℕ → Kind → List X) (readings : List LineReading) (cards : List (List ℕ)) (at number : ℕ) → (length cards ≤ at) ⊎ (length readings ≤ at) → given_from given number (drop at readings) (drop at cards) ≡ []
none-left given readings cards at number (inl end) = ap (λ (ls : List (List ℕ)). given_from given number (drop at readings) ls) (drop_all at cards end)
none-left {X = X} given readings cards at number (inr end) = ap (λ (ks : List LineReading). given_from given number ks (drop at cards)) (drop_all at readings end) ∙ no_readings (drop at cards)
  where
    no_readings : (lines : List (List ℕ)) → given_from given number [] lines ≡ []
    no_readings [] = refl
    no_readings (line ∷ lines) = refl

-- no line is left
pub all-read : {X : Type 0} (given : ℕ → List ℕ → Kind → List X) (readings : List LineReading) (cards : List (List ℕ)) (at : ℕ) (out whole : List X) → min (length cards) (length readings) ≤ at
    → out ++ given_from given (at + 1) (drop at readings) (drop at cards) ≡ whole → out ≡ whole
all-read {X = X} given readings cards at out whole end h =
    sym (append-nil out) ∙ sym (ap (λ (t : List X). out ++ t) (none-left given readings cards at (at + 1) (past (lesser (length cards) (length readings))))) ∙ h
  where
    past : (length cards ≤ min (length cards) (length readings)) ⊎ (length readings ≤ min (length cards) (length readings)) → (length cards ≤ at) ⊎ (length readings ≤ at)
    past (inl k) = inl (omega (arith, k, end))
    past (inr k) = inr (omega (arith, k, end))
