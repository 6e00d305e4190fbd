-- What the cards of the control without a fault of sense are together.
use Rattle.emtp_case.specs.declared.limit.TheConstants.{MOST_CONTROL_CARDS, MOST_HISTORY_VALUES, MOST_VARIABLES}
use Rattle.std.specs.List.{sum_by}
use Rattle.std.specs.Prelude.{All, List, length, ℕ, ◌≡◌, ◌≤◌}
use Rattle.emtp_case.specs.Case.{standing_names}
use Rattle.emtp_case.specs.held.Case.{DefinesEach}
use Rattle.emtp_case.specs.held.Name.{IsName}
use Rattle.emtp_sense.specs.ControlSense.{entry_history_values}
use Rattle.emtp_deck.specs.Deck.{case_of}
use Rattle.emtp_deck.specs.held.Filling.{made_of}
use Rattle.emtp_sense.specs.held.Naming.{Continues}
use Rattle.emtp_walk.specs.held.Sound.{IsTacsSourceCard}
use Rattle.emtp_walk.specs.declared.deck.Deck.{Deck}
use Rattle.emtp_deck.specs.declared.filling.Filling.{Filling}
use Rattle.emtp_sense.specs.held.ControlSensible.{IsSensibleBlock, IsSensibleExtra, IsSensibleTacsSource}

-- the blocks and the supplemental cards, whose variables have these names
pub record IsSensibleControl (variables : List (List ℕ)) (deck : Deck) : Type 0 where
  pub standing : Continues standing_names variables
  pub few : length variables ≤ MOST_VARIABLES
  pub names : All IsName standing_names → All IsName variables
  pub few_blocks : length deck.control.blocks ≤ MOST_CONTROL_CARDS
  pub blocks : All (IsSensibleBlock variables) deck.control.blocks
  pub few_extras : length deck.control.extras ≤ MOST_CONTROL_CARDS
  pub extras : All (IsSensibleExtra variables) deck.control.extras
  pub history : sum_by (entry_history_values deck.run.dt) deck.control.extras ≤ MOST_HISTORY_VALUES

-- the sources of the control, once the network is whole, and that each variable is that of one card
pub record IsSensibleWhole (f : Filling) (deck : Deck) : Type 0 where
  pub few : length deck.control.sources ≤ MOST_CONTROL_CARDS
  pub switches : length deck.switches ≡ length f.draft.parts.switches
  pub sources : All IsTacsSourceCard deck.control.sources
  pub sensible : All (IsSensibleTacsSource f.nodes.keys deck.switches f.variables.keys) deck.control.sources
  pub each : DefinesEach (case_of deck (made_of f))
