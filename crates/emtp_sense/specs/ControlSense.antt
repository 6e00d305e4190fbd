-- The faults of sense of the cards of the control, given the names of all nodes and variables. Of a card the least fault
-- counts, and the first card that has one decides.
use Rattle.emtp_fix.specs.Chain.{unless}
use Rattle.emtp_case.specs.declared.limit.TheConstants.{MOST_CONTROL_CARDS, MOST_HISTORY_VALUES}
use Rattle.std.specs.List.{list_any}
use Rattle.std.specs.Prelude.{Bool, Err, List, None, Ok, Option, Result, Some, [], false, if◌then◌else◌, is_some, length, nat_le, nat_lt, not, option_map, position, true, ℕ, ℤ, ◌+◌, ◌||◌, ◌∷◌}
use Rattle.std.specs.Str.{bytes_eq}
use Rattle.emtp_card.specs.Fault.{bad_at, least}
use Rattle.emtp_card.specs.declared.fault.Fault.{Fault}
use Rattle.emtp_card.specs.declared.reason.Bad.{Bad}
use Rattle.emtp_card.specs.declared.reason.Why.TheVariants.{TwoSources, UnknownName}
use Rattle.emtp_case.specs.HistoryValues.{device_history_values}
use Rattle.emtp_case.specs.declared.source.Shape.{Shape}
use Rattle.emtp_case.specs.declared.source.Shape.TheVariants.{NodeVoltage, SwitchCurrent, SwitchStatus}
use Rattle.emtp_walk.specs.Answer.{first_bad}
use Rattle.emtp_sense.specs.Limits.{too_many}
use Rattle.emtp_sense.specs.Variables.{find_variable, unknown_name, variable_number}
use Rattle.emtp_walk.specs.declared.control_cards.BlockEntry.{BlockEntry}
use Rattle.emtp_walk.specs.declared.control_cards.ControlCards.{ControlCards}
use Rattle.emtp_walk.specs.declared.control_cards.ControlPlace.{ControlPlace}
use Rattle.emtp_walk.specs.declared.control_cards.ControlPlace.TheVariants.{Blocks, Denominator, DevicePoints, Extras, Initial, Numerator, TacsOutputs, TacsSources}
use Rattle.emtp_walk.specs.declared.control_cards.ExtraEntry.{ExtraEntry}
use Rattle.emtp_walk.specs.declared.control_cards.ExtraEntry.TheVariants.{Device as DeviceEntry, Formula as FormulaEntry}
use Rattle.emtp_walk.specs.declared.deck.Deck.{Deck}
use Rattle.emtp_walk.specs.declared.deck.Place.{Place}
use Rattle.emtp_walk.specs.declared.deck.Place.TheVariants.{Control}
use Rattle.emtp_netcards.specs.declared.source_card.SourceCard.{SourceCard}
use Rattle.emtp_netcards.specs.declared.switch_card.SwitchCard.{SwitchCard}
use Rattle.emtp_taccards.specs.Inputs.{inputs}
use Rattle.emtp_taccards.specs.declared.block_card.BlockCard.{BlockCard}
use Rattle.emtp_taccards.specs.declared.device_card.DeviceCard.{DeviceCard}
use Rattle.emtp_taccards.specs.declared.formula_card.FormulaCard.{FormulaCard}

-- A card defines the next variable. Its definition is a second one where the name has a lesser number: that of an earlier
-- card, or of a variable of every case.
abbrev pub second_sense : List (List ℕ) → ℕ → List ℕ → Option Fault
second_sense variables next name =
    if nat_lt (variable_number variables name) next then Some (record { column = 3; why = TwoSources }) else None

abbrev pub first_fault : Option Fault → Option Fault → Option Fault
first_fault (Some fault) other = Some fault
first_fault None other = other

-- signed inputs, whose names stand eight columns apart from a column on; the first that is unknown has the least column
abbrev pub inputs_sense : List (List ℕ) → ℕ → List (Option (Bool × List ℕ)) → Option Fault
inputs_sense variables column [] = None
inputs_sense variables column (input ∷ inputs) =
    first_fault (unknown_name variables column (option_map (λ (i : Bool × List ℕ). i.1) input))
    (inputs_sense variables (column + 8) inputs)

-- ---- blocks

-- the block after so many
unfoldable pub block_sense : List (List ℕ) → ℕ → BlockCard → Option Fault
block_sense variables at card =
    least (too_many (nat_le MOST_CONTROL_CARDS at) 1
    ∷ second_sense variables (6 + at) card.name
    ∷ inputs_sense variables 12 card.inputs
    ∷ unknown_name variables 69 card.low_name
    ∷ unknown_name variables 75 card.high_name
    ∷ [])

abbrev pub block_bad : List (List ℕ) → ℕ → BlockCard → Option Bad
block_bad variables at card = option_map (bad_at card.line) (block_sense variables at card)

abbrev pub blocks_bad : List (List ℕ) → ℕ → List BlockEntry → Option Bad
blocks_bad variables at [] = None
blocks_bad variables at (e ∷ es) = first_bad (block_bad variables at e.card) (blocks_bad variables (at + 1) es)

-- ---- sources

abbrev pub is_end : List ℕ → Option (List ℕ) → Bool
is_end name None = false
is_end name (Some node) = bytes_eq name node

-- the first switch that has a name at an end
abbrev pub ends_at : List ℕ → SwitchCard → Bool
ends_at name card = is_end name card.from || is_end name card.to

abbrev pub find_switch : List SwitchCard → List ℕ → Option ℕ
find_switch switches name = position (ends_at name) switches

-- a source that measures has the name of a node, or of the end of a switch
abbrev pub is_measurable : List (List ℕ) → List SwitchCard → List ℕ → Shape → Bool
is_measurable nodes switches name (NodeVoltage node) = is_some (position (bytes_eq name) nodes)
is_measurable nodes switches name (SwitchCurrent switch) = is_some (find_switch switches name)
is_measurable nodes switches name (SwitchStatus switch) = is_some (find_switch switches name)
is_measurable nodes switches name other = true

abbrev pub measured_sense : List (List ℕ) → List SwitchCard → SourceCard → Option Fault
measured_sense nodes switches card =
    if is_measurable nodes switches card.name card.shape then None else Some (record { column = 3; why = UnknownName })

-- the source after so many, the next variable having this number
unfoldable pub tacs_source_sense : List (List ℕ) → List SwitchCard → List (List ℕ) → ℕ → ℕ → SourceCard → Option Fault
tacs_source_sense nodes switches variables at next card =
    least (too_many (nat_le MOST_CONTROL_CARDS at) 1
    ∷ second_sense variables next card.name
    ∷ measured_sense nodes switches card
    ∷ [])

abbrev pub tacs_source_bad : List (List ℕ) → List SwitchCard → List (List ℕ) → ℕ → ℕ → SourceCard → Option Bad
tacs_source_bad nodes switches variables at next card =
    option_map (bad_at card.line) (tacs_source_sense nodes switches variables at next card)

-- the sources after so many, the first of all having this number
abbrev pub tacs_sources_bad : List (List ℕ) → List SwitchCard → List (List ℕ) → ℕ → ℕ → List SourceCard → Option Bad
tacs_sources_bad nodes switches variables first at [] = None
tacs_sources_bad nodes switches variables first at (card ∷ cards) =
    first_bad (tacs_source_bad nodes switches variables at (first + at) card)
    (tacs_sources_bad nodes switches variables first (at + 1) cards)

-- ---- supplemental cards

abbrev pub is_unknown : List (List ℕ) → List ℕ → Bool
is_unknown variables name = not (is_some (find_variable variables name))

-- the names of an expression have one column
abbrev pub names_sense : List (List ℕ) → List (List ℕ) → Option Fault
names_sense variables names =
    if list_any (is_unknown variables) names then Some (record { column = 12; why = UnknownName }) else None

-- the device after so many cards, which needs so many history values with those before it
unfoldable pub device_sense : List (List ℕ) → ℕ → ℕ → ℕ → DeviceCard → Option Fault
device_sense variables at next history card =
    least (too_many (nat_le MOST_CONTROL_CARDS at) 1
    ∷ too_many (nat_lt MOST_HISTORY_VALUES history) 1
    ∷ second_sense variables next card.name
    ∷ inputs_sense variables 12 card.inputs
    ∷ unknown_name variables 69 card.d
    ∷ unknown_name variables 75 card.e
    ∷ [])

unfoldable pub formula_sense : List (List ℕ) → ℕ → ℕ → FormulaCard → Option Fault
formula_sense variables at next card =
    least (too_many (nat_le MOST_CONTROL_CARDS at) 1
    ∷ second_sense variables next card.name
    ∷ names_sense variables card.parsed.names
    ∷ [])

abbrev pub device_bad : List (List ℕ) → ℕ → ℕ → ℕ → DeviceCard → Option Bad
device_bad variables at next history card = option_map (bad_at card.line) (device_sense variables at next history card)

abbrev pub formula_bad : List (List ℕ) → ℕ → ℕ → FormulaCard → Option Bad
formula_bad variables at next card = option_map (bad_at card.line) (formula_sense variables at next card)

abbrev pub extra_bad : List (List ℕ) → ℕ → ℕ → ℕ → ExtraEntry → Option Bad
extra_bad variables at next history (DeviceEntry card first count) = device_bad variables at next history card
extra_bad variables at next history (FormulaEntry card) = formula_bad variables at next card

abbrev pub card_history_values : ℤ → DeviceCard → ℕ
card_history_values dt card = device_history_values dt card.code card.a

abbrev pub entry_history_values : ℤ → ExtraEntry → ℕ
entry_history_values dt (DeviceEntry card first count) = card_history_values dt card
entry_history_values dt (FormulaEntry card) = 0

-- the cards after so many, which need so many history values, the first of all having this number; it gives those of all
abbrev pub judge_extras : List (List ℕ) → ℤ → ℕ → ℕ → ℕ → List ExtraEntry → Result ℕ Bad
judge_extras variables dt first at history [] = Ok history
judge_extras variables dt first at history (e ∷ es) =
    let sum = history + entry_history_values dt e in
    unless (extra_bad variables at (first + at) sum e) (λ bad. bad) (judge_extras variables dt first (at + 1) sum es)

-- ---- all cards

-- the number of the first variable of a section, if the cards before it define one each
abbrev pub first_source : ControlCards → ℕ
first_source cards = 6 + length cards.blocks

abbrev pub first_extra : ControlCards → ℕ
first_extra cards = first_source cards + length cards.sources

abbrev pub pending_device : List (List ℕ) → ℤ → ControlCards → ℕ → DeviceCard → Option Bad
pending_device variables dt cards history card =
    let at = length cards.extras in
    device_bad variables at (first_extra cards + at) (history + card_history_values dt card) card

-- the card of a group that the file cuts off, after cards that need so many history values
abbrev pub pending_control : List (List ℕ) → ℤ → ControlCards → ℕ → ControlPlace → Option Bad
pending_control variables dt cards history Blocks = None
pending_control variables dt cards history (Numerator card) = block_bad variables (length cards.blocks) card
pending_control variables dt cards history (Denominator card top line) = block_bad variables (length cards.blocks) card
pending_control variables dt cards history TacsSources = None
pending_control variables dt cards history Extras = None
pending_control variables dt cards history (DevicePoints group) = pending_device variables dt cards history group.card
pending_control variables dt cards history TacsOutputs = None
pending_control variables dt cards history Initial = None

abbrev pub pending_control_bad : List (List ℕ) → Deck → Place → ℕ → Option Bad
pending_control_bad variables deck (Control at) history = pending_control variables deck.run.dt deck.control history at
pending_control_bad variables deck other history = None

abbrev pub extras_or_pending : List (List ℕ) → Deck → Place → Result ℕ Bad → Option Bad
extras_or_pending variables deck place (Ok history) = pending_control_bad variables deck place history
extras_or_pending variables deck place (Err bad) = Some bad

-- the blocks, the sources and the supplemental cards
unfoldable pub control_bad : List (List ℕ) → List (List ℕ) → Deck → Place → Option Bad
control_bad nodes variables deck place =
    let cards = deck.control in
    first_bad (blocks_bad variables 0 cards.blocks)
    (first_bad (tacs_sources_bad nodes deck.switches variables (first_source cards) 0 cards.sources)
    (extras_or_pending variables deck place (judge_extras variables deck.run.dt (first_extra cards) 0 0 cards.extras)))
