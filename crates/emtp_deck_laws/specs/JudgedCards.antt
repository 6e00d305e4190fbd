-- The cards of a deck in the order in which their sense is judged, each with all its faults: those of the control, of the branches,
-- of the switches, of the sources and of the outputs. Each is judged by what the cards before it make, faulty or not.
use Rattle.std.specs.Prelude.{ℕ, ◌+◌, ℤ, List, [], ◌∷◌, ◌++◌, length, Option, Some, None}
use Rattle.emtp_card.specs.declared.fault.Fault.{Fault}
use Rattle.emtp_case.specs.declared.branch.Point.{Point}
use Rattle.emtp_case.specs.declared.case.Parts.{Parts}
use Rattle.emtp_case.specs.declared.channel.Channel.{Channel}
use Rattle.emtp_deck.specs.Branches.{first_counts, second_counts, with_counts, with_entry}
use Rattle.emtp_deck.specs.Copies.{values_behind}
use Rattle.emtp_deck.specs.Deck.{control_made}
use Rattle.emtp_deck.specs.Made.{Made}
use Rattle.emtp_deck.specs.Outputs.{node_channels}
use Rattle.emtp_deck.specs.Sources.{with_source}
use Rattle.emtp_deck.specs.Switches.{with_switch}
use Rattle.emtp_deck.specs.declared.copies.ValuesFrom.TheVariants.{Card as OwnValues}
use Rattle.emtp_deck_laws.specs.CardFaults.{asking_output, asking_variable, block_faults, branch_faults, channel_of_node, channel_of_variable, device_faults, end_faults, formula_faults, names_faults, output_faults, samples_faults, source_faults, switch_faults, tacs_source_faults}
use Rattle.emtp_netcards.specs.declared.branch_card.BranchCard.{BranchCard}
use Rattle.emtp_netcards.specs.declared.output_card.OutputCard.{OutputCard}
use Rattle.emtp_netcards.specs.declared.output_card.OutputCard.TheVariants.{All as AllNodes, Names}
use Rattle.emtp_netcards.specs.declared.source_card.SourceCard.{SourceCard}
use Rattle.emtp_netcards.specs.declared.switch_card.SwitchCard.{SwitchCard}
use Rattle.emtp_sense.specs.ControlSense.{card_history_values, entry_history_values, first_extra, first_source}
use Rattle.emtp_sense.specs.Names.{case_nodes, find_node, known_nodes}
use Rattle.emtp_sense.specs.Variables.{variable_names}
use Rattle.emtp_taccards.specs.declared.block_card.BlockCard.{BlockCard}
use Rattle.emtp_taccards.specs.declared.device_card.DeviceCard.{DeviceCard}
use Rattle.emtp_walk.specs.declared.control_cards.BlockEntry.{BlockEntry}
use Rattle.emtp_walk.specs.declared.control_cards.ControlCards.{ControlCards}
use Rattle.emtp_walk.specs.declared.control_cards.ControlPlace.{ControlPlace}
use Rattle.emtp_walk.specs.declared.control_cards.ControlPlace.TheVariants.{Blocks, Denominator, DevicePoints, Extras, Initial, Numerator, TacsOutputs, TacsSources}
use Rattle.emtp_walk.specs.declared.control_cards.ExtraEntry.{ExtraEntry}
use Rattle.emtp_walk.specs.declared.control_cards.ExtraEntry.TheVariants.{Device as DeviceEntry, Formula as FormulaEntry}
use Rattle.emtp_walk.specs.declared.control_cards.TacsOutputEntry.{TacsOutputEntry}
use Rattle.emtp_walk.specs.declared.deck.BranchEntry.{BranchEntry}
use Rattle.emtp_walk.specs.declared.deck.BranchEntry.TheVariants.{Single, Trio}
use Rattle.emtp_walk.specs.declared.deck.Deck.{Deck}
use Rattle.emtp_walk.specs.declared.deck.OutputEntry.{OutputEntry}
use Rattle.emtp_walk.specs.declared.deck.Place.{Place}
use Rattle.emtp_walk.specs.declared.deck.Place.TheVariants.{Points, Third, Waiting, Control}

-- a card, or the end of the file: its line, and its faults of sense, where it has any
pub record Judged : Type 0 where
  pub line : ℕ
  pub faults : List (Option Fault)

-- ---- blocks and sources of the control

abbrev pub judged_block : List (List ℕ) → ℕ → BlockCard → Judged
judged_block variables at card = record { line = card.line; faults = block_faults variables at card }

abbrev pub judged_blocks : List (List ℕ) → ℕ → List BlockEntry → List Judged
judged_blocks variables at [] = []
judged_blocks variables at (e ∷ es) = judged_block variables at e.card ∷ judged_blocks variables (at + 1) es

-- the sources after so many, of which the first has this number
abbrev pub judged_tacs_sources : List (List ℕ) → List SwitchCard → List (List ℕ) → ℕ → ℕ → List SourceCard → List Judged
judged_tacs_sources nodes switches variables first at [] = []
judged_tacs_sources nodes switches variables first at (card ∷ cards) =
    record { line = card.line; faults = tacs_source_faults nodes switches variables at (first + at) card }
    ∷ judged_tacs_sources nodes switches variables first (at + 1) cards

-- ---- supplemental cards

abbrev pub judged_device : List (List ℕ) → ℕ → ℕ → ℕ → DeviceCard → Judged
judged_device variables at next history card = record { line = card.line; faults = device_faults variables at next history card }

abbrev pub judged_extra : List (List ℕ) → ℕ → ℕ → ℕ → ExtraEntry → Judged
judged_extra variables at next history (DeviceEntry card first count) = judged_device variables at next history card
judged_extra variables at next history (FormulaEntry card) = record {
  line = card.line;
  faults = formula_faults variables at next card;
}

-- the cards after so many, which need so many history values
abbrev pub judged_extras : List (List ℕ) → ℤ → ℕ → ℕ → ℕ → List ExtraEntry → List Judged
judged_extras variables dt first at history [] = []
judged_extras variables dt first at history (e ∷ es) =
    let sum = history + entry_history_values dt e in
    judged_extra variables at (first + at) sum e ∷ judged_extras variables dt first (at + 1) sum es

-- the history values of all of them
abbrev pub extras_history : ℤ → ℕ → List ExtraEntry → ℕ
extras_history dt history [] = history
extras_history dt history (e ∷ es) = extras_history dt (history + entry_history_values dt e) es

-- the card of a group that the file cuts off
abbrev pub judged_cut_control : List (List ℕ) → ℤ → ControlCards → ℕ → ControlPlace → List Judged
judged_cut_control variables dt cards history Blocks = []
judged_cut_control variables dt cards history (Numerator card) = judged_block variables (length cards.blocks) card ∷ []
judged_cut_control variables dt cards history (Denominator card top line) = judged_block variables (length cards.blocks) card ∷ []
judged_cut_control variables dt cards history TacsSources = []
judged_cut_control variables dt cards history Extras = []
judged_cut_control variables dt cards history (DevicePoints group) =
    let at = length cards.extras in
    judged_device variables at (first_extra cards + at) (history + card_history_values dt group.card) group.card ∷ []
judged_cut_control variables dt cards history TacsOutputs = []
judged_cut_control variables dt cards history Initial = []

abbrev pub judged_cut_place : List (List ℕ) → Deck → ℕ → Place → List Judged
judged_cut_place variables deck history (Control at) = judged_cut_control variables deck.run.dt deck.control history at
judged_cut_place variables deck history other = []

-- the cards of the control that make variables
abbrev pub judged_control : List (List ℕ) → List (List ℕ) → Deck → Place → List Judged
judged_control nodes variables deck place =
    let cards = deck.control in
    judged_blocks variables 0 cards.blocks
    ++ (judged_tacs_sources nodes deck.switches variables (first_source cards) 0 cards.sources
    ++ (judged_extras variables deck.run.dt (first_extra cards) 0 0 cards.extras
    ++ judged_cut_place variables deck (extras_history deck.run.dt 0 cards.extras) place))

-- ---- outputs

-- what the names of a card ask for
abbrev pub made_names : (Parts → List ℕ → Option Channel) → (Made → Option Channel → Made) → Made → List (Option (List ℕ)) → Made
made_names channel asking m [] = m
made_names channel asking m (None ∷ names) = made_names channel asking m names
made_names channel asking m (Some name ∷ names) = made_names channel asking (asking m (channel m.parts name)) names

abbrev pub made_output : Made → OutputCard → Made
made_output m AllNodes = record m { asked = record m.asked { outputs = m.asked.outputs ++ node_channels (length m.parts.nodes) } }
made_output m (Names names) = made_names channel_of_node asking_output m names

abbrev pub judged_outputs : Made → List OutputEntry → List Judged
judged_outputs m [] = []
judged_outputs m (e ∷ es) = record { line = e.line; faults = output_faults m e.card } ∷ judged_outputs (made_output m e.card) es

abbrev pub made_outputs : Made → List OutputEntry → Made
made_outputs m [] = m
made_outputs m (e ∷ es) = made_outputs (made_output m e.card) es

abbrev pub judged_tacs_outputs : Made → List TacsOutputEntry → List Judged
judged_tacs_outputs m [] = []
judged_tacs_outputs m (e ∷ es) =
    record { line = e.line; faults = names_faults channel_of_variable asking_variable m 3 e.names }
    ∷ judged_tacs_outputs (made_names channel_of_variable asking_variable m e.names) es

abbrev pub made_tacs_outputs : Made → List TacsOutputEntry → Made
made_tacs_outputs m [] = m
made_tacs_outputs m (e ∷ es) = made_tacs_outputs (made_names channel_of_variable asking_variable m e.names) es

-- ---- branches

abbrev pub judged_first : Made → BranchCard → Judged
judged_first m card =
    record { line = card.line; faults = branch_faults m.parts.nodes (first_counts m card) card (values_behind m.parts card) }

abbrev pub judged_second : Made → BranchCard → BranchCard → Judged
judged_second m zero' positive =
    record {
      line = positive.line;
      faults = branch_faults m.parts.nodes (second_counts m zero' positive) positive (values_behind m.parts positive);
    }

abbrev pub judged_third : Made → BranchCard → BranchCard → BranchCard → Judged
judged_third m zero' positive third =
    record {
      line = third.line;
      faults = branch_faults m.parts.nodes (with_counts (second_counts m zero' positive) third 0) third OwnValues;
    }

abbrev pub judged_entry : Made → BranchEntry → List Judged
judged_entry m (Single card first count) = judged_first m card ∷ []
judged_entry m (Trio zero' positive third) =
    judged_first m zero' ∷ judged_second m zero' positive ∷ judged_third m zero' positive third ∷ []

abbrev pub judged_branches : List Point → Made → List BranchEntry → List Judged
judged_branches points m [] = []
judged_branches points m (e ∷ es) = judged_entry m e ++ judged_branches points (with_entry points m e) es

abbrev pub made_branches : List Point → Made → List BranchEntry → Made
made_branches points m [] = m
made_branches points m (e ∷ es) = made_branches points (with_entry points m e) es

-- the cards of a group that the file cuts off
abbrev pub judged_cut_branches : Made → Place → List Judged
judged_cut_branches m (Points group) = judged_first m group.card ∷ []
judged_cut_branches m (Waiting card wide) = judged_first m card ∷ []
judged_cut_branches m (Third zero' positive wide) = judged_first m zero' ∷ judged_second m zero' positive ∷ []
judged_cut_branches m other = []

-- ---- switches and sources

abbrev pub judged_switches : Made → List SwitchCard → List Judged
judged_switches m [] = []
judged_switches m (card ∷ cards) =
    record { line = card.line; faults = switch_faults m card } ∷ judged_switches (with_switch m card) cards

abbrev pub made_switches : Made → List SwitchCard → Made
made_switches m [] = m
made_switches m (card ∷ cards) = made_switches (with_switch m card) cards

abbrev pub judged_sources : Made → List SourceCard → List Judged
judged_sources m [] = []
judged_sources m (card ∷ cards) =
    record { line = card.line; faults = source_faults m card }
    ∷ judged_sources (with_source m card (find_node m.parts.nodes card.name)) cards

abbrev pub made_sources : Made → List SourceCard → Made
made_sources m [] = m
made_sources m (card ∷ cards) = made_sources (with_source m card (find_node m.parts.nodes card.name)) cards

-- ---- all cards

-- what is made before each section
abbrev pub made_before_branches : List (List ℕ) → List (List ℕ) → Deck → Made
made_before_branches nodes variables deck = made_tacs_outputs (control_made nodes variables deck) deck.control.outputs

abbrev pub made_before_switches : List (List ℕ) → List (List ℕ) → Deck → Made
made_before_switches nodes variables deck = made_branches deck.points (made_before_branches nodes variables deck) deck.branches

abbrev pub made_before_sources : List (List ℕ) → List (List ℕ) → Deck → Made
made_before_sources nodes variables deck = made_switches (made_before_switches nodes variables deck) deck.switches

abbrev pub made_before_outputs : List (List ℕ) → List (List ℕ) → Deck → Made
made_before_outputs nodes variables deck = made_sources (made_before_sources nodes variables deck) deck.sources

abbrev pub made_of_all : List (List ℕ) → List (List ℕ) → Deck → Made
made_of_all nodes variables deck = made_outputs (made_before_outputs nodes variables deck) deck.outputs

-- the sections of the network, and the outputs of the control before them
abbrev pub judged_sections : List (List ℕ) → List (List ℕ) → Deck → List Judged
judged_sections nodes variables deck =
    judged_tacs_outputs (control_made nodes variables deck) deck.control.outputs
    ++ judged_branches deck.points (made_before_branches nodes variables deck) deck.branches
    ++ judged_switches (made_before_switches nodes variables deck) deck.switches
    ++ judged_sources (made_before_sources nodes variables deck) deck.sources
    ++ judged_outputs (made_before_outputs nodes variables deck) deck.outputs

-- a file of so many lines: the second miscellaneous card, which says how many samples are stored, all cards of the sections, and
-- behind its last line its end
abbrev pub judged_cards : ℕ → Deck → Place → List Judged
judged_cards lines deck place =
    let nodes = known_nodes deck place in
    let variables = variable_names deck place in
    record { line = deck.second; faults = samples_faults deck place }
    ∷ (judged_control nodes variables deck place
    ++ judged_sections (case_nodes nodes) variables deck
    ++ (judged_cut_branches (made_of_all (case_nodes nodes) variables deck) place
    ++ record { line = lines + 1; faults = end_faults place } ∷ []))
