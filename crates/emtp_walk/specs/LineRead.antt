-- What a line gives a deck, and what refuses a card that can't stand where it does.
use Rattle.std.specs.Prelude.{List, Ok, Option, Result, Some, ℕ}
use Rattle.emtp_card.specs.Fault.{judge}
use Rattle.emtp_card.specs.declared.reason.Bad.{Bad}
use Rattle.emtp_card.specs.declared.reason.Why.TheVariants.{BadOrder}
use Rattle.emtp_walk.specs.Answer.{go_on}
use Rattle.emtp_walk.specs.declared.deck.Deck.{Deck}
use Rattle.emtp_walk.specs.declared.deck.Place.{Place}

-- the deck so far, and the place of the next line
abbrev pub Read : Type 0
Read = Result (Deck × Place) Bad

abbrev pub order_fault : ℕ → List ℕ → Option Bad
order_fault number line = judge number line (Some (record { column = 1; why = BadOrder }))

abbrev pub place_of : Deck → Result Place Bad → Read
place_of deck next = go_on (λ (place : Place). Ok (deck, place)) next
