-- Outputs: the channels that each card of the network and of the control asks for, unless it has a fault of sense.
use Rattle.std.specs.Prelude.{ℕ, zero, suc, ◌+◌, List, [], ◌∷◌, ◌++◌, length, Option, Some, None, Result, Ok, option_map}
use Rattle.emtp_fix.specs.Chain.{unless}
use Rattle.emtp_card.specs.declared.fault.Fault.{Fault}
use Rattle.emtp_card.specs.declared.reason.Bad.{Bad}
use Rattle.emtp_card.specs.declared.reason.Why.TheVariants.{UnknownName}
use Rattle.emtp_case.specs.declared.case.Parts.{Parts}
use Rattle.emtp_case.specs.declared.channel.Channel.{Channel}
use Rattle.emtp_case.specs.declared.channel.Channel.TheVariants.{NodeVoltage as NodeChannel, Tacs as VariableChannel}
use Rattle.emtp_card.specs.Fault.{bad_at}
use Rattle.emtp_walk.specs.Answer.{go_on}
use Rattle.emtp_deck.specs.Made.{Made, no_room}
use Rattle.emtp_deck.specs.declared.asked.Asked.{Asked}
use Rattle.emtp_deck.specs.declared.outputs.Named.{Named}
use Rattle.emtp_deck.specs.declared.outputs.Named.TheVariants.{Node, Variable}
use Rattle.emtp_netcards.specs.declared.output_card.OutputCard.{OutputCard}
use Rattle.emtp_netcards.specs.declared.output_card.OutputCard.TheVariants.{All as AllNodes, Names}
use Rattle.emtp_sense.specs.Limits.{too_many}
use Rattle.emtp_sense.specs.Names.{find_node}
use Rattle.emtp_sense.specs.Variables.{find_variable}
use Rattle.emtp_walk.specs.declared.control_cards.TacsOutputEntry.{TacsOutputEntry}
use Rattle.emtp_walk.specs.declared.deck.OutputEntry.{OutputEntry}

-- ---- names

-- the channel of what has a name
abbrev pub channel_of : Named → Parts → List ℕ → Option Channel
channel_of Node parts name = option_map NodeChannel (find_node parts.nodes name)
channel_of Variable parts name = option_map VariableChannel (find_variable parts.vars name)

-- a name in a column has a channel, for which there is room
abbrev pub name_fault : Asked → ℕ → Option Channel → Option Fault
name_fault asked column None = Some (record { column = column; why = UnknownName })
name_fault asked column (Some channel) = too_many (no_room asked 1) column

abbrev pub with_channels : Named → Made → List Channel → Made
with_channels Node m channels = record m { asked = record m.asked { outputs = m.asked.outputs ++ channels } }
with_channels Variable m channels = record m { asked = record m.asked { variables = m.asked.variables ++ channels } }

abbrev pub with_channel : Named → Made → Option Channel → Made
with_channel named m None = m
with_channel named m (Some channel) = with_channels named m (channel ∷ [])

unfoldable pub take_known_name : Named → ℕ → Made → ℕ → List ℕ → Result Made Bad
take_known_name named line m column name =
    let channel = channel_of named m.parts name in
    unless (name_fault m.asked column channel) (bad_at line) (Ok (with_channel named m channel))

-- blank names are skipped
abbrev pub take_name : Named → ℕ → Made → ℕ → Option (List ℕ) → Result Made Bad
take_name named line m column None = Ok m
take_name named line m column (Some name) = take_known_name named line m column name

-- names of six columns each, from a column on; the first that has a fault decides
abbrev pub take_names : Named → ℕ → Made → ℕ → List (Option (List ℕ)) → Result Made Bad
take_names named line m column [] = Ok m
take_names named line m column (name ∷ names) =
    go_on (λ (made : Made). take_names named line made (column + 6) names) (take_name named line m column name)

-- ---- all nodes

-- the nodes up to a number, in order
abbrev pub node_channels : ℕ → List Channel
node_channels zero = []
node_channels (suc n) = node_channels n ++ NodeChannel (suc n) ∷ []

unfoldable pub take_all_nodes : ℕ → Made → Result Made Bad
take_all_nodes line m =
    let nodes = length m.parts.nodes in
    unless (too_many (no_room m.asked nodes) 1) (bad_at line) (Ok (with_channels Node m (node_channels nodes)))

-- ---- cards

abbrev pub take_output : ℕ → Made → OutputCard → Result Made Bad
take_output line m AllNodes = take_all_nodes line m
take_output line m (Names names) = take_names Node line m 3 names

-- the first card that has a fault decides
abbrev pub take_outputs : Made → List OutputEntry → Result Made Bad
take_outputs m [] = Ok m
take_outputs m (entry ∷ entries) = go_on (λ (made : Made). take_outputs made entries) (take_output entry.line m entry.card)

-- the same of the cards of the control
abbrev pub take_tacs_outputs : Made → List TacsOutputEntry → Result Made Bad
take_tacs_outputs m [] = Ok m
take_tacs_outputs m (entry ∷ entries) =
    go_on (λ (made : Made). take_tacs_outputs made entries) (take_names Variable entry.line m 3 entry.names)
