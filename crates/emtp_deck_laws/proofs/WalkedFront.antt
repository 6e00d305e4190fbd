-- A walk that is refused goes no further.
use Rattle.std.proofs.Common.{◌≡◌, ap, ℕ, ◌+◌, List, [], ◌∷◌, ◌++◌, length, Ok, Err}
use Rattle.emtp_card.specs.declared.reason.Bad.{Bad}
use Rattle.emtp_deck.specs.Deck.{deck_case, deck_of}
use Rattle.emtp_walk.specs.Answer.{go_on}
use Rattle.emtp_walk.specs.LineRead.{Read}
use Rattle.emtp_walk.specs.Walk.{advance, empty_deck, walk}
use Rattle.emtp_walk.specs.declared.deck.Deck.{Deck}
use Rattle.emtp_walk.specs.declared.deck.Place.{Place}
use Rattle.emtp_walk.specs.declared.deck.Place.TheVariants.{Begin}

by_step : (next : Read) (number : ℕ) (front behind : List (List ℕ)) (bad : Bad)
    → ((n : Deck × Place) → walk (number + 1) n.0 n.1 front ≡ Err bad → walk (number + 1) n.0 n.1 (front ++ behind) ≡ Err bad)
    → go_on (λ (n : Deck × Place). walk (number + 1) n.0 n.1 front) next ≡ Err bad → go_on (λ (n : Deck × Place). walk (number + 1) n.0 n.1 (front ++ behind)) next ≡ Err bad
by_step (Ok n) number front behind bad rest e = rest n e
by_step (Err other) number front behind bad rest e = e

ends_there : (number : ℕ) (deck : Deck) (place : Place) (front behind : List (List ℕ)) (bad : Bad) → walk number deck place front ≡ Err bad → walk number deck place (front ++ behind) ≡ Err bad
ends_there number deck place [] behind bad e = absurd (cc)
ends_there number deck place (line ∷ front) behind bad e =
    by_step (advance deck place number line) number front behind bad (λ n h. ends_there (number + 1) n.0 n.1 front behind bad h) e

pub front_decides : (front behind : List (List ℕ)) (bad : Bad) → walk 1 empty_deck Begin front ≡ Err bad → deck_of (front ++ behind) ≡ Err bad
unfolding deck_of
front_decides front behind bad e =
    ap (go_on (λ (read : Deck × Place). deck_case (length (front ++ behind) + 1) read.0 read.1)) (ends_there 1 empty_deck Begin front behind bad e)
