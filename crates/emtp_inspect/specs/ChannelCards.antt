-- Which card asks for each channel of the record.
use Rattle.std.specs.Prelude.{[], ◌+◌, ◌++◌, ◌==◌, ◌∷◌, List, Option, None, Some, Result, Ok, Err, codes, count_by, decimal, if◌then◌else◌, is_some, length, replicate, ℕ}
use Rattle.emtp_card.specs.declared.reason.Bad.{Bad}
use Rattle.emtp_case.specs.declared.case.Parts.{Parts}
use Rattle.emtp_deck.specs.Channels.{channel_count}
use Rattle.emtp_inspect.specs.EachCard.{branch_in, each_card}
use Rattle.emtp_inspect.specs.declared.channel_cards.Group.{Group}
use Rattle.emtp_inspect.specs.declared.channel_cards.Group.TheVariants.{BranchValues, ControlVariables, NodeVoltages, SwitchStates, SwitchValues}
use Rattle.emtp_netcards.specs.OutputCard.{output_card}
use Rattle.emtp_netcards.specs.SwitchCard.{switch_card}
use Rattle.emtp_netcards.specs.declared.branch_card.BranchCard.{BranchCard}
use Rattle.emtp_netcards.specs.declared.output_card.OutputCard.{OutputCard}
use Rattle.emtp_netcards.specs.declared.output_card.OutputCard.TheVariants.{All as AllNodes, Names}
use Rattle.emtp_netcards.specs.declared.switch_card.SwitchCard.{SwitchCard}
use Rattle.emtp_taccards.specs.TacsOutputCard.{tacs_output_card}
use Rattle.emtp_walk.specs.declared.kind.Kind.{Kind}
use Rattle.emtp_walk.specs.declared.kind.Kind.TheVariants.{Output, Switch, TacsOutput}
use Rattle.emtp_walk.specs.declared.kind.LineReading.{LineReading}

-- ---- how many channels of a group a card asks for

-- a channel for each name, or for each node
abbrev pub nodes_asked : ℕ → Result OutputCard Bad → ℕ
nodes_asked nodes (Ok AllNodes) = nodes
nodes_asked nodes (Ok (Names names)) = count_by is_some names
nodes_asked nodes (Err bad) = 0

abbrev pub variables_asked : Result (List (Option (List ℕ))) Bad → ℕ
variables_asked (Ok names) = count_by is_some names
variables_asked (Err bad) = 0

-- the current, the voltage, or both, by column 80
abbrev pub branch_asked : Option BranchCard → ℕ
branch_asked (Some card) = channel_count card.asked
branch_asked None = 0

abbrev pub switch_asked : Result SwitchCard Bad → ℕ
switch_asked (Ok card) = channel_count card.asked
switch_asked (Err bad) = 0

-- and the state of a switch of which anything is asked
abbrev pub states_asked : Result SwitchCard Bad → ℕ
states_asked (Ok card) = if card.asked == 0 then 0 else 1
states_asked (Err bad) = 0

abbrev pub asked_in : Parts → Group → ℕ → List ℕ → Kind → ℕ
asked_in p NodeVoltages number line Output = nodes_asked (length p.nodes) (output_card number line)
asked_in p NodeVoltages number line kind = 0
asked_in p BranchValues number line kind = branch_asked (branch_in p.run.dt number line kind)
asked_in p SwitchValues number line Switch = switch_asked (switch_card number line)
asked_in p SwitchValues number line kind = 0
asked_in p ControlVariables number line TacsOutput = variables_asked (tacs_output_card number line)
asked_in p ControlVariables number line kind = 0
asked_in p SwitchStates number line Switch = states_asked (switch_card number line)
asked_in p SwitchStates number line kind = 0

-- ---- the line of each channel

-- the number of a line as often as it asks for a channel of a group
abbrev pub asking_in : Parts → Group → ℕ → List ℕ → Kind → List ℕ
asking_in p group number line kind = replicate (asked_in p group number line kind) number

abbrev pub asking_lines : List LineReading → List (List ℕ) → Parts → Group → List ℕ
asking_lines readings lines p group = each_card (asking_in p group) readings lines

-- The line that asks for each channel, in the order of the record (`all_asked` of emtp_deck): group by group, and in each of them
-- card by card.
abbrev pub lines_of_channels : List LineReading → List (List ℕ) → Parts → List ℕ
lines_of_channels readings lines p =
    asking_lines readings lines p NodeVoltages ++ asking_lines readings lines p BranchValues
    ++ asking_lines readings lines p SwitchValues
    ++ asking_lines readings lines p ControlVariables ++ asking_lines readings lines p SwitchStates

-- ---- the text

unfoldable pub channel_text : ℕ → ℕ → List ℕ
channel_text channel line = codes "line " ++ decimal line ++ codes ", asks for channel=" ++ decimal channel ++ codes "\n"

-- the channels from a number on
abbrev pub channel_texts : ℕ → List ℕ → List ℕ
channel_texts channel [] = []
channel_texts channel (line ∷ lines) = channel_text channel line ++ channel_texts (channel + 1) lines

-- a line for each channel of a case, by its number from 1
abbrev pub channels_text : List LineReading → List (List ℕ) → Parts → List ℕ
channels_text readings lines p = channel_texts 1 (lines_of_channels readings lines p)
