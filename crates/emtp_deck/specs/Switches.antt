-- Switches: what each card gives the case, unless it has a fault of sense. Of a card the least fault counts.
use Rattle.emtp_fix.specs.Chain.{unless}
use Rattle.emtp_case.specs.declared.limit.TheConstants.{MOST_NODES, MOST_SWITCHES}
use Rattle.std.specs.Prelude.{ℕ, nat_le, nat_lt, List, [], ◌∷◌, ◌++◌, length, Option, Result, Ok, None, Some, option_map}
use Rattle.emtp_card.specs.Fault.{bad_at, least}
use Rattle.emtp_card.specs.declared.fault.Fault.{Fault}
use Rattle.emtp_card.specs.declared.reason.Bad.{Bad}
use Rattle.emtp_case.specs.declared.channel.Channel.TheVariants.{SwitchCurrent, SwitchVoltage}
use Rattle.emtp_case.specs.declared.switch.Switch.{Switch}
use Rattle.emtp_case.specs.declared.switch.SwitchKind.{SwitchKind}
use Rattle.emtp_case.specs.declared.switch.SwitchKind.TheVariants.{Control, Measuring, Time, Valve}
use Rattle.emtp_walk.specs.Answer.{go_on}
use Rattle.emtp_deck.specs.Channels.{channels_of, status_of, switch_channel_count}
use Rattle.emtp_deck.specs.Made.{Made, no_room}
use Rattle.emtp_sense.specs.Limits.{too_many}
use Rattle.emtp_sense.specs.Names.{node_number}
use Rattle.emtp_sense.specs.Variables.{unknown_name, variable_number}
use Rattle.emtp_netcards.specs.declared.switch_card.SwitchCard.{SwitchCard}

-- what opens and closes a switch, the variable that its card names having its number
abbrev pub control_number : List (List ℕ) → Option (List ℕ) → ℕ
control_number variables None = 0
control_number variables (Some name) = variable_number variables name

abbrev pub controlled_kind : List (List ℕ) → Option (List ℕ) → SwitchKind → SwitchKind
controlled_kind variables control (Time close open_at margin) = Time close open_at margin
controlled_kind variables control Measuring = Measuring
controlled_kind variables control (Valve ignition holding number) =
    Valve ignition holding (option_map (variable_number variables) control)
controlled_kind variables control (Control number) = Control (control_number variables control)

-- the faults of sense of a card
abbrev pub switch_fault : Made → SwitchCard → Option Fault
switch_fault m card =
    least (too_many (nat_le MOST_SWITCHES (length m.parts.switches)) 1
    ∷ too_many (no_room m.asked (switch_channel_count card.asked)) 1
    ∷ too_many (nat_lt MOST_NODES (node_number m.parts.nodes card.from)) 3
    ∷ too_many (nat_lt MOST_NODES (node_number m.parts.nodes card.to)) 9
    ∷ unknown_name m.parts.vars 65 card.control
    ∷ [])

abbrev pub switch_at : List (List ℕ) → List (List ℕ) → SwitchCard → Switch
switch_at names variables card = record {
  line = card.line;
  «from» = node_number names card.from;
  to = node_number names card.to;
  kind = controlled_kind variables card.control card.kind;
}

-- the switch of a card, and the channels that it asks for
abbrev pub with_switch : Made → SwitchCard → Made
with_switch m card =
    let at = length m.parts.switches in
    record {
      parts = record m.parts { switches = m.parts.switches ++ switch_at m.parts.nodes m.parts.vars card ∷ [] };
      asked = record m.asked {
        switches = m.asked.switches ++ channels_of card.asked (SwitchCurrent at) (SwitchVoltage at);
        statuses = m.asked.statuses ++ status_of card.asked at;
      };
    }

unfoldable pub take_switch : Made → SwitchCard → Result Made Bad
take_switch m card = unless (switch_fault m card) (bad_at card.line) (Ok (with_switch m card))

-- the first card that has a fault decides
abbrev pub take_switches : Made → List SwitchCard → Result Made Bad
take_switches m [] = Ok m
take_switches m (card ∷ cards) = go_on (λ (made : Made). take_switches made cards) (take_switch m card)
