-- All faults of sense of one card, where those before it have made this much of the case. Of signed inputs and of the names of
-- an expression the first unknown one stands for all.
use Rattle.emtp_case.specs.declared.limit.TheConstants.{MOST_BRANCHES, MOST_CHANNELS, MOST_CONTROL_CARDS, MOST_HISTORY_VALUES, MOST_NODES, MOST_SOURCES, MOST_SWITCHES}
use Rattle.std.specs.Prelude.{ℕ, ◌+◌, nat_le, nat_lt, List, [], ◌∷◌, ◌++◌, length, Option, Some, None, option_map, if◌then◌else◌}
use Rattle.emtp_card.specs.declared.fault.Fault.{Fault}
use Rattle.emtp_card.specs.declared.reason.Why.TheVariants.{MissingSection, TooManySamples}
use Rattle.emtp_case.specs.declared.case.Parts.{Parts}
use Rattle.emtp_case.specs.declared.channel.Channel.{Channel}
use Rattle.emtp_case.specs.declared.channel.Channel.TheVariants.{NodeVoltage as NodeChannel, Tacs as VariableChannel}
use Rattle.emtp_deck.specs.Copies.{missing_fault}
use Rattle.emtp_deck.specs.Channels.{switch_channel_count}
use Rattle.emtp_deck.specs.Deck.{is_ended}
use Rattle.emtp_deck.specs.Made.{Made, no_room}
use Rattle.emtp_deck.specs.Outputs.{name_fault}
use Rattle.emtp_deck.specs.Samples.{has_too_many}
use Rattle.emtp_deck.specs.Sources.{driver_fault, node_fault}
use Rattle.emtp_deck.specs.declared.branches.Counts.{Counts}
use Rattle.emtp_deck.specs.declared.copies.ValuesFrom.{ValuesFrom}
use Rattle.emtp_netcards.specs.declared.branch_card.BranchCard.{BranchCard}
use Rattle.emtp_netcards.specs.declared.output_card.OutputCard.{OutputCard}
use Rattle.emtp_netcards.specs.declared.output_card.OutputCard.TheVariants.{All as AllNodes, Names}
use Rattle.emtp_netcards.specs.declared.source_card.SourceCard.{SourceCard}
use Rattle.emtp_netcards.specs.declared.switch_card.SwitchCard.{SwitchCard}
use Rattle.emtp_sense.specs.ControlSense.{inputs_sense, measured_sense, names_sense, second_sense}
use Rattle.emtp_sense.specs.Limits.{too_many}
use Rattle.emtp_sense.specs.Names.{find_node, known_nodes, node_number}
use Rattle.emtp_sense.specs.Variables.{find_variable, unknown_name, variable_names}
use Rattle.emtp_taccards.specs.declared.block_card.BlockCard.{BlockCard}
use Rattle.emtp_taccards.specs.declared.device_card.DeviceCard.{DeviceCard}
use Rattle.emtp_taccards.specs.declared.formula_card.FormulaCard.{FormulaCard}
use Rattle.emtp_walk.specs.declared.deck.Deck.{Deck}
use Rattle.emtp_walk.specs.declared.deck.Place.{Place}

-- ---- the control

-- the block after so many
abbrev pub block_faults : List (List ℕ) → ℕ → BlockCard → List (Option Fault)
block_faults variables at card =
    too_many (nat_le MOST_CONTROL_CARDS at) 1
    ∷ second_sense variables (6 + at) card.name
    ∷ inputs_sense variables 12 card.inputs
    ∷ unknown_name variables 69 card.low_name
    ∷ unknown_name variables 75 card.high_name
    ∷ []

-- the source of the control after so many, whose variable is the next
abbrev pub tacs_source_faults : List (List ℕ) → List SwitchCard → List (List ℕ) → ℕ → ℕ → SourceCard → List (Option Fault)
tacs_source_faults nodes switches variables at next card =
    too_many (nat_le MOST_CONTROL_CARDS at) 1 ∷ second_sense variables next card.name ∷ measured_sense nodes switches card ∷ []

-- the device after so many supplemental cards, which need so many history values with its own
abbrev pub device_faults : List (List ℕ) → ℕ → ℕ → ℕ → DeviceCard → List (Option Fault)
device_faults variables at next history card =
    too_many (nat_le MOST_CONTROL_CARDS at) 1
    ∷ too_many (nat_lt MOST_HISTORY_VALUES history) 1
    ∷ second_sense variables next card.name
    ∷ inputs_sense variables 12 card.inputs
    ∷ unknown_name variables 69 card.d
    ∷ unknown_name variables 75 card.e
    ∷ []

abbrev pub formula_faults : List (List ℕ) → ℕ → ℕ → FormulaCard → List (Option Fault)
formula_faults variables at next card =
    too_many (nat_le MOST_CONTROL_CARDS at) 1 ∷ second_sense variables next card.name
    ∷ names_sense variables card.parsed.names ∷ []

-- ---- the network

-- given the nodes, and the counts with the card's own
abbrev pub branch_faults : List (List ℕ) → Counts → BranchCard → ValuesFrom → List (Option Fault)
branch_faults nodes n card values =
    too_many (nat_lt MOST_BRANCHES n.branches) 1
    ∷ too_many (nat_lt MOST_HISTORY_VALUES n.history) 1
    ∷ too_many (nat_lt MOST_CHANNELS n.channels) 1
    ∷ too_many (nat_lt MOST_NODES (node_number nodes card.from)) 3
    ∷ too_many (nat_lt MOST_NODES (node_number nodes card.to)) 9
    ∷ missing_fault values
    ∷ []

abbrev pub switch_faults : Made → SwitchCard → List (Option Fault)
switch_faults m card =
    too_many (nat_le MOST_SWITCHES (length m.parts.switches)) 1
    ∷ too_many (no_room m.asked (switch_channel_count card.asked)) 1
    ∷ too_many (nat_lt MOST_NODES (node_number m.parts.nodes card.from)) 3
    ∷ too_many (nat_lt MOST_NODES (node_number m.parts.nodes card.to)) 9
    ∷ unknown_name m.parts.vars 65 card.control
    ∷ []

abbrev pub source_faults : Made → SourceCard → List (Option Fault)
source_faults m card =
    too_many (nat_le MOST_SOURCES (length m.parts.sources)) 1
    ∷ node_fault card m.parts.sources (find_node m.parts.nodes card.name)
    ∷ driver_fault m.parts.vars card
    ∷ []

-- ---- outputs

-- the channel of a node's name, and of a variable's
abbrev pub channel_of_node : Parts → List ℕ → Option Channel
channel_of_node parts name = option_map NodeChannel (find_node parts.nodes name)

abbrev pub channel_of_variable : Parts → List ℕ → Option Channel
channel_of_variable parts name = option_map VariableChannel (find_variable parts.vars name)

-- the channel of a name is asked for, where there is one
abbrev pub asking_output : Made → Option Channel → Made
asking_output m None = m
asking_output m (Some channel) = record m { asked = record m.asked { outputs = m.asked.outputs ++ channel ∷ [] } }

abbrev pub asking_variable : Made → Option Channel → Made
asking_variable m None = m
asking_variable m (Some channel) = record m { asked = record m.asked { variables = m.asked.variables ++ channel ∷ [] } }

-- names of six columns each, from a column on, of which blank ones are none; each is a channel, and is asked for
abbrev pub names_faults : (Parts → List ℕ → Option Channel) → (Made → Option Channel → Made) → Made → ℕ
    → List (Option (List ℕ)) → List (Option Fault)
names_faults channel asking m column [] = []
names_faults channel asking m column (None ∷ names) = names_faults channel asking m (column + 6) names
names_faults channel asking m column (Some name ∷ names) =
    name_fault m.asked column (channel m.parts name)
    ∷ names_faults channel asking (asking m (channel m.parts name)) (column + 6) names

abbrev pub output_faults : Made → OutputCard → List (Option Fault)
output_faults m AllNodes = too_many (no_room m.asked (length m.parts.nodes)) 1 ∷ []
output_faults m (Names names) = names_faults channel_of_node asking_output m 3 names

-- ---- the file as a whole

-- more stored values than a record may have
abbrev pub samples_faults : Deck → Place → List (Option Fault)
samples_faults deck place =
    (if has_too_many (known_nodes deck place) (variable_names deck place) deck place
    then Some (record { column = 9; why = TooManySamples }) else None) ∷ []

-- a file that ends before its sections do
abbrev pub end_faults : Place → List (Option Fault)
end_faults place = (if is_ended place then None else Some (record { column = 1; why = MissingSection })) ∷ []
