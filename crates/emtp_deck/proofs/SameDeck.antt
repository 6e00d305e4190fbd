-- Decks whose lines are walked alike.
use Rattle.std.proofs.Common.{◌≡◌, ◌∙◌, ap, ℕ, ◌+◌, List, length}
use Rattle.emtp_deck.specs.Deck.{deck_case, deck_of}
use Rattle.emtp_walk.specs.Answer.{go_on}
use Rattle.emtp_walk.specs.Walk.{empty_deck, walk}
use Rattle.emtp_walk.specs.declared.deck.Deck.{Deck}
use Rattle.emtp_walk.specs.declared.deck.Place.{Place}
use Rattle.emtp_walk.specs.declared.deck.Place.TheVariants.{Begin}

pub same_deck : (xs ys : List (List ℕ)) → walk 1 empty_deck Begin xs ≡ walk 1 empty_deck Begin ys → length xs ≡ length ys → deck_of xs ≡ deck_of ys
unfolding deck_of
same_deck xs ys same count =
    ap (go_on (λ (read : Deck × Place). deck_case (length xs + 1) read.0 read.1)) same
    ∙ ap (λ n. go_on (λ (read : Deck × Place). deck_case (n + 1) read.0 read.1) (walk 1 empty_deck Begin ys)) count
