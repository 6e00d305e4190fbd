-- A deck that is filled: its record isn't too large, and its control has no fault of sense.
use Rattle.std.specs.Prelude.{◌≡◌, None, false}
use Rattle.emtp_sense.specs.ControlSense.{control_bad}
use Rattle.emtp_sense.specs.Names.{known_nodes}
use Rattle.emtp_deck.specs.Samples.{has_too_many}
use Rattle.emtp_sense.specs.Variables.{variable_names}
use Rattle.emtp_walk.specs.declared.deck.Deck.{Deck}
use Rattle.emtp_walk.specs.declared.deck.Place.{Place}

pub record IsAccepted (deck : Deck) (place : Place) : Type 0 where
  pub few : has_too_many (known_nodes deck place) (variable_names deck place) deck place ≡ false
  pub control : control_bad (known_nodes deck place) (variable_names deck place) deck place ≡ None
