-- The refusal of a list of cards: that of the first card that has a fault, by its least one.
use Rattle.std.proofs.Common.{◌≡◌, ◌∙◌, sym, ap, refl, ℕ, List, [], ◌∷◌, ◌++◌, Option, Some, None, option_map, Result, Ok}
use Rattle.emtp_fix.specs.Chain.{unless}
use Rattle.emtp_card.specs.Fault.{bad_at, least}
use Rattle.emtp_card.specs.declared.fault.Fault.{Fault}
use Rattle.emtp_card.specs.declared.reason.Bad.{Bad}
use Rattle.emtp_deck_laws.specs.JudgedCards.{Judged}
use Rattle.emtp_walk.specs.Answer.{first_bad, go_on}

abbrev pub refusal_of : Judged → Option Bad
refusal_of card = option_map (bad_at card.line) (least card.faults)

abbrev pub first_refusal : List Judged → Option Bad
first_refusal [] = None
first_refusal (card ∷ cards) = first_bad (refusal_of card) (first_refusal cards)

pub bad_alone : (a : Option Bad) → a ≡ first_bad a None
bad_alone (Some a) = refl
bad_alone None = refl

pub bads_in_turn : (a b c : Option Bad) → first_bad (first_bad a b) c ≡ first_bad a (first_bad b c)
bads_in_turn (Some a) b c = refl
bads_in_turn None b c = refl

pub refusals_in_turn : (xs ys : List Judged) → first_refusal (xs ++ ys) ≡ first_bad (first_refusal xs) (first_refusal ys)
refusals_in_turn [] ys = refl
refusals_in_turn (x ∷ xs) ys = ap (first_bad (refusal_of x)) (refusals_in_turn xs ys) ∙ sym (bads_in_turn (refusal_of x) (first_refusal xs) (first_refusal ys))

-- ---- what is made unless a card is refused

both : {A B : Type 0} (f : A → Result B Bad) (a b : Option Bad) (x : A) (y : B) → f x ≡ unless b (λ bad. bad) (Ok y) → go_on f (unless a (λ bad. bad) (Ok x)) ≡ unless (first_bad a b) (λ bad. bad) (Ok y)
both f (Some a) b x y e = refl
both f None b x y e = e

-- more cards after some
pub more_cards : {A B : Type 0} (f : A → Result B Bad) (xs ys : List Judged) (r : Result A Bad) (x : A) (y : B) → r ≡ unless (first_refusal xs) (λ bad. bad) (Ok x) → f x ≡ unless (first_refusal ys) (λ bad. bad) (Ok y) → go_on f r ≡ unless (first_refusal (xs ++ ys)) (λ bad. bad) (Ok y)
more_cards f xs ys r x y e h =
    ap (go_on f) e
    ∙ both f (first_refusal xs) (first_refusal ys) x y h
    ∙ ap (λ bad. unless bad (λ bad. bad) (Ok y)) (sym (refusals_in_turn xs ys))

one : {A : Type 0} (line : ℕ) (fault : Option Fault) (x : A) → unless fault (bad_at line) (Ok x) ≡ unless (first_bad (option_map (bad_at line) fault) None) (λ bad. bad) (Ok x)
one line (Some fault) x = refl
one line None x = refl

-- one card
pub one_card : {A : Type 0} (line : ℕ) (faults : List (Option Fault)) (x : A) → unless (least faults) (bad_at line) (Ok x) ≡ unless (first_refusal (record { line = line; faults = faults } ∷ [])) (λ bad. bad) (Ok x)
one_card line faults x = one line (least faults) x

pub judged_first : {A : Type 0} (a b : Option Bad) (y : A) → unless a (λ bad. bad) (unless b (λ bad. bad) (Ok y)) ≡ unless (first_bad a b) (λ bad. bad) (Ok y)
judged_first (Some a) b y = refl
judged_first None b y = refl

-- a card with one fault at most
pub single_fault : (fault : Option Fault) → least (fault ∷ []) ≡ fault
unfolding least
single_fault (Some fault) = refl
single_fault None = refl
