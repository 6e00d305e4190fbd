-- Of cards in the order of their lines the first refusal is the least of all their faults.
use Rattle.std.proofs.Common.{◌≡◌, sym, subst, refl, ℕ, zero, suc, ◌+◌, ◌≤◌, ◌<◌, ◌==◌, Bool, false, ◌||◌, ◌&&◌, List, [], ◌∷◌, length, Option, Some, None, option_map, ◌⊎◌, inl, inr, arith}
use Rattle.std.specs.List.{Any}
use Rattle.std.specs.Prelude.{map, nat_lt, slice_index_or}
use Rattle.std.proofs.lemmas.Bool.Decides.{nat_tests}
use Rattle.emtp_card.proofs.Faults.{AreNone, least_is_least, least_none}
use Rattle.emtp_card.specs.Fault.{bad_at, comes_before, least}
use Rattle.emtp_card.specs.held.Fault.{IsIn, IsLeastOf, IsNotAfter}
use Rattle.emtp_card.specs.declared.fault.Fault.{Fault}
use Rattle.emtp_card.specs.declared.reason.Bad.{Bad}
use Rattle.emtp_deck_laws.specs.JudgedCards.{Judged}
use Rattle.emtp_deck_laws.specs.LeastFault.{HasFault, IsFaultAmong, IsLeastAmong, fault_of_bad}
use Rattle.emtp_deck_laws.proofs.FirstRefusal.{first_refusal}
use Rattle.emtp_walk.specs.Answer.{first_bad}
use Rattle.emtp_walk.specs.Laws.{Rises}

-- ---- one of a list

any_here : {A : Type 0} (P : A → Type 0) (x : A) (xs : List A) → P x → Any P (x ∷ xs)
any_here P x xs p = (0, x, omega arith, refl, p)

any_later : {A : Type 0} (P : A → Type 0) (x : A) (xs : List A) → Any P xs → Any P (x ∷ xs)
any_later P x xs h = (suc h.0, h.1, omega (arith, h.2), h.3, h.4)

first_or_later : {A : Type 0} (P : A → Type 0) (x : A) (xs : List A) (k : ℕ) (y : A) → k < suc (length xs) → slice_index_or (x ∷ xs) k y ≡ y → P y → P x ⊎ Any P xs
first_or_later P x xs zero y l is p = inl (subst P (sym is) p)
first_or_later P x xs (suc k) y l is p = inr (k, y, omega arith, is, p)

any_cases : {A : Type 0} (P : A → Type 0) (x : A) (xs : List A) → Any P (x ∷ xs) → P x ⊎ Any P xs
any_cases P x xs h = first_or_later P x xs h.0 h.1 h.2 h.3 h.4

-- ---- one card

none_in : (fs : List (Option Fault)) (f : Fault) → AreNone fs → IsIn f fs → ⊥
none_in [] f none i = elim i [ ]
none_in (g ∷ gs) f none (inl e) = let first = none.0 in cc
none_in (g ∷ gs) f none (inr i) = none_in gs f none.1 i

not_after : (fs : List (Option Fault)) (f g : Fault) → IsNotAfter f fs → IsIn g fs → comes_before g f ≡ false
not_after [] f g first i = elim i [ ]
not_after (h ∷ hs) f g first (inl e) = first.0 g e
not_after (h ∷ hs) f g first (inr i) = not_after hs f g first.1 i

-- ---- lines

on_one_line : (a b : ℕ) (later : Bool) → a ≡ b → later ≡ false → (nat_lt a b || ((a == b) && later)) ≡ false
on_one_line a b later e is = grind (arith, nat_tests)

on_later_lines : (a b : ℕ) (later : Bool) → b + 1 ≤ a → (nat_lt a b || ((a == b) && later)) ≡ false
on_later_lines a b later h = grind (arith, nat_tests)

-- no fault stands on a line before the first card's
above : (cards : List Judged) (low high : ℕ) (other : Bad) → Rises low (map (λ (card : Judged). card.line) cards) high → IsFaultAmong cards other → low ≤ other.line
above [] low high other rises h = absurd (omega (arith, h.2))
above (card ∷ cards) low high other rises h =
    elim (any_cases (HasFault other) card cards h) [
      | inl here ↦ omega (arith, rises.0, here.0)
      | inr later ↦ omega (arith, rises.0, above cards (card.line + 1) high other rises.1 later)
    ]

-- ---- all cards

at_card : (card : Judged) (cards : List Judged) (high : ℕ) (f : Fault) → Rises (card.line + 1) (map (λ (c : Judged). c.line) cards) high → IsLeastOf card.faults f → IsLeastAmong (card ∷ cards) (bad_at card.line f)
at_card card cards high f rises is = record {
  there = any_here (HasFault (bad_at card.line f)) card cards (refl, is.there);
  least = λ other h. elim (any_cases (HasFault other) card cards h) [
    | inl here ↦ on_one_line other.line card.line (comes_before (fault_of_bad other) f) (sym here.0) (not_after card.faults f (fault_of_bad other) is.first here.1)
    | inr later ↦ on_later_lines other.line card.line (comes_before (fault_of_bad other) f) (above cards (card.line + 1) high other rises later)
  ];
}

behind_card : (card : Judged) (cards : List Judged) (bad : Bad) → AreNone card.faults → IsLeastAmong cards bad → IsLeastAmong (card ∷ cards) bad
behind_card card cards bad none rest = record {
  there = any_later (HasFault bad) card cards rest.there;
  least = λ other h. elim (any_cases (HasFault other) card cards h) [
    | inl here ↦ absurd (none_in card.faults (fault_of_bad other) none here.1)
    | inr later ↦ rest.least other later
  ];
}

by_least : (card : Judged) (cards : List Judged) (high : ℕ) (bad : Bad) (fault : Option Fault) → least card.faults ≡ fault → Rises (card.line + 1) (map (λ (c : Judged). c.line) cards) high
    → (first_refusal cards ≡ Some bad → IsLeastAmong cards bad) → first_bad (option_map (bad_at card.line) fault) (first_refusal cards) ≡ Some bad → IsLeastAmong (card ∷ cards) bad
by_least card cards high bad (Some f) is rises rest e =
    let same : bad_at card.line f ≡ bad = cc in
    subst (IsLeastAmong (card ∷ cards)) same (at_card card cards high f rises (least_is_least card.faults f is))
by_least card cards high bad None is rises rest e = behind_card card cards bad (least_none card.faults is) (rest e)

pub least_of_all : (cards : List Judged) (low high : ℕ) (bad : Bad) → Rises low (map (λ (card : Judged). card.line) cards) high → first_refusal cards ≡ Some bad → IsLeastAmong cards bad
least_of_all [] low high bad rises e = absurd (cc)
least_of_all (card ∷ cards) low high bad rises e =
    by_least card cards high bad (least card.faults) refl rises.1 (λ h. least_of_all cards (card.line + 1) high bad rises.1 h) e

no_fault : (card : Judged) (cards : List Judged) (bad : Bad) (fault : Option Fault) → least card.faults ≡ fault → (first_refusal cards ≡ None → IsFaultAmong cards bad → ⊥)
    → first_bad (option_map (bad_at card.line) fault) (first_refusal cards) ≡ None → IsFaultAmong (card ∷ cards) bad → ⊥
no_fault card cards bad (Some f) is rest e h = cc
no_fault card cards bad None is rest e h =
    elim (any_cases (HasFault bad) card cards h) [ inl here ↦ none_in card.faults (fault_of_bad bad) (least_none card.faults is) here.1 | inr later ↦ rest e later ]

pub none_of_all : (cards : List Judged) (bad : Bad) → first_refusal cards ≡ None → IsFaultAmong cards bad → ⊥
none_of_all [] bad e h = absurd (omega (arith, h.2))
none_of_all (card ∷ cards) bad e h = no_fault card cards bad (least card.faults) refl (λ e' h'. none_of_all cards bad e' h') e h
