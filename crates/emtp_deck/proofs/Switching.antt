-- A switch card without a fault of sense.
use Rattle.emtp_case.specs.declared.limit.TheConstants.{MOST_CHANNELS, MOST_SWITCHES}
use Rattle.std.proofs.Common.{◌≡◌, ◌+◌, ◌<◌, ◌≤◌, length, None, subst, sym}
use Rattle.emtp_case.specs.held.Range.{AreEnds}
use Rattle.emtp_deck.proofs.Judging.{sensible_switch}
use Rattle.emtp_sense.proofs.Knowing.{known_name}
use Rattle.emtp_sense.proofs.Naming.{ends_of}
use Rattle.emtp_deck.specs.Channels.{switch_channel_count}
use Rattle.emtp_sense.specs.held.ControlSensible.{IsKnown}
use Rattle.emtp_deck.specs.held.Filling.{IsFilling, made_of}
use Rattle.emtp_deck.specs.Made.{count_asked}
use Rattle.emtp_sense.specs.Names.{node_number}
use Rattle.emtp_sense.specs.held.Naming.{HasSwitchNodes}
use Rattle.emtp_deck.specs.Switches.{switch_fault}
use Rattle.emtp_deck.specs.declared.filling.Filling.{Filling}
use Rattle.emtp_netcards.specs.held.SwitchCard.{HasSwitchNumbers}
use Rattle.emtp_netcards.specs.declared.switch_card.SwitchCard.{SwitchCard}

-- what the draft needs before the switch is added
pub record IsReady (f : Filling) (card : SwitchCard) : Type 0 where
  pub room : length f.draft.parts.switches < MOST_SWITCHES
  pub asked : count_asked f.asked + switch_channel_count card.asked ≤ MOST_CHANNELS
  pub ends : AreEnds (length f.draft.parts.nodes) (node_number f.nodes.keys card.from) (node_number f.nodes.keys card.to)
  pub control : IsKnown f.variables.keys card.control

pub ready : (f : Filling) (card : SwitchCard) → IsFilling f → HasSwitchNumbers card → HasSwitchNodes f.nodes.keys card → switch_fault (made_of f) card ≡ None → IsReady f card
ready f card h numbers there e =
    let nodes = f.draft.parts.nodes in
    let sensible = sensible_switch (made_of f) card e in
    let has = subst (λ ns. HasSwitchNodes ns card) h.nodes there in
    record {
      room = sensible.room;
      asked = sensible.asked;
      ends = subst (λ ns. AreEnds (length nodes) (node_number ns card.from) (node_number ns card.to)) (sym h.nodes)
          (ends_of nodes card.from card.to numbers.ends (has.from_node sensible.from_few) (has.to_node sensible.to_few));
      control = subst (λ vs. IsKnown vs card.control) (sym h.variables) (known_name f.draft.parts.vars 65 card.control sensible.control);
    }
