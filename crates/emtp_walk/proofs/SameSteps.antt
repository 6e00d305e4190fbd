-- Lines that are taken alike, one by one.
use Rattle.std.proofs.Common.{◌≡◌, ◌∙◌, ap, refl, ℕ, ◌+◌, List, [], ◌∷◌, length, Ok, Err}
use Rattle.emtp_walk.specs.Answer.{go_on}
use Rattle.emtp_walk.specs.LineRead.{Read}
use Rattle.emtp_walk.specs.Walk.{advance, walk}
use Rattle.emtp_walk.specs.declared.deck.Deck.{Deck}
use Rattle.emtp_walk.specs.declared.deck.Place.{Place}

-- two lines that give the same wherever they stand
abbrev pub IsSameStep : List ℕ → List ℕ → Type 0
IsSameStep x y = (deck : Deck) (place : Place) (number : ℕ) → advance deck place number x ≡ advance deck place number y

abbrev pub AreSameSteps : List (List ℕ) → List (List ℕ) → Type 0
AreSameSteps [] [] = Unit {0}
AreSameSteps [] (y ∷ ys) = ⊥
AreSameSteps (x ∷ xs) [] = ⊥
AreSameSteps (x ∷ xs) (y ∷ ys) = IsSameStep x y × AreSameSteps xs ys

rest : (number : ℕ) (xs ys : List (List ℕ)) → ((number : ℕ) (deck : Deck) (place : Place) → walk number deck place xs ≡ walk number deck place ys) → (r : Read)
    → go_on (λ (next : Deck × Place). walk (number + 1) next.0 next.1 xs) r ≡ go_on (λ (next : Deck × Place). walk (number + 1) next.0 next.1 ys) r
rest number xs ys same (Ok next) = same (number + 1) next.0 next.1
rest number xs ys same (Err bad) = refl

pub same_walk : (xs ys : List (List ℕ)) → AreSameSteps xs ys → (number : ℕ) (deck : Deck) (place : Place) → walk number deck place xs ≡ walk number deck place ys
same_walk [] [] h number deck place = refl
same_walk [] (y ∷ ys) h number deck place = absurd h
same_walk (x ∷ xs) [] h number deck place = absurd h
same_walk (x ∷ xs) (y ∷ ys) h number deck place =
    rest number xs ys (same_walk xs ys h.1) (advance deck place number x)
    ∙ ap (go_on (λ (next : Deck × Place). walk (number + 1) next.0 next.1 ys)) (h.0 deck place number)

pub same_length : (xs ys : List (List ℕ)) → AreSameSteps xs ys → length xs ≡ length ys
same_length [] [] h = refl
same_length [] (y ∷ ys) h = absurd h
same_length (x ∷ xs) [] h = absurd h
same_length (x ∷ xs) (y ∷ ys) h = let rest = same_length xs ys h.1 in cc
