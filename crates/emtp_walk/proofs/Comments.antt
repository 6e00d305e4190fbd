-- The text of comments doesn't matter.
use Rattle.std.proofs.Common.{◌≡◌, ◌∙◌, sym, ap, refl, ℕ, Bool, true, false, List, [], ◌∷◌, inl, inr, length, Ok}
use Rattle.std.specs.Prelude.{if◌then◌else◌}
use Rattle.emtp_card.specs.Lines.{is_comment}
use Rattle.emtp_walk.specs.Laws.{AreAlike, IsAlike}
use Rattle.emtp_walk.specs.LineRead.{Read}
use Rattle.emtp_walk.specs.declared.deck.Place.TheVariants.{Begin}
use Rattle.emtp_walk.specs.Walk.{advance, empty_deck, step, walk}
use Rattle.emtp_walk.proofs.SameSteps.{AreSameSteps, IsSameStep, same_length, same_walk}

skipped : (b : Bool) (x y : Read) → b ≡ true → (if b then x else y) ≡ x
skipped true x y e = refl
skipped false x y e = cc

same_step : (x y : List ℕ) → IsAlike x y → IsSameStep x y
same_step x y (inl same) deck place number = ap (advance deck place number) same
same_step x y (inr both) deck place number =
    skipped (is_comment x) (Ok (deck, place)) (step deck place number x) both.0 ∙ sym (skipped (is_comment y) (Ok (deck, place)) (step deck place number y) both.1)

same_steps : (xs ys : List (List ℕ)) → AreAlike xs ys → AreSameSteps xs ys
same_steps [] [] h = tt
same_steps [] (y ∷ ys) h = absurd h
same_steps (x ∷ xs) [] h = absurd h
same_steps (x ∷ xs) (y ∷ ys) h = (same_step x y h.0, same_steps xs ys h.1)

pub same_but_comments : (xs ys : List (List ℕ)) → AreAlike xs ys → walk 1 empty_deck Begin xs ≡ walk 1 empty_deck Begin ys
same_but_comments xs ys h = same_walk xs ys (same_steps xs ys h) 1 empty_deck Begin

pub as_many_with_comments : (xs ys : List (List ℕ)) → AreAlike xs ys → length xs ≡ length ys
as_many_with_comments xs ys h = same_length xs ys (same_steps xs ys h)
