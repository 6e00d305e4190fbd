-- The names of the control's variables, and their numbers.
use Rattle.std.specs.Prelude.{List, None, Option, Some, fold, if◌then◌else◌, is_some, length, position, unwrap_or, ℕ}
use Rattle.std.specs.Str.{bytes_eq}
use Rattle.emtp_card.specs.declared.fault.Fault.{Fault}
use Rattle.emtp_card.specs.declared.reason.Why.TheVariants.{UnknownName}
use Rattle.emtp_case.specs.Case.{standing_names}
use Rattle.emtp_walk.specs.declared.control_cards.BlockEntry.{BlockEntry}
use Rattle.emtp_walk.specs.declared.control_cards.ControlCards.{ControlCards}
use Rattle.emtp_walk.specs.declared.control_cards.ControlPlace.{ControlPlace}
use Rattle.emtp_walk.specs.declared.control_cards.ControlPlace.TheVariants.{Blocks, Denominator, DevicePoints, Extras, Initial, Numerator, TacsOutputs, TacsSources}
use Rattle.emtp_walk.specs.declared.control_cards.ExtraEntry.{ExtraEntry}
use Rattle.emtp_walk.specs.declared.control_cards.ExtraEntry.TheVariants.{Device as DeviceEntry, Formula as FormulaEntry}
use Rattle.emtp_walk.specs.declared.deck.Deck.{Deck}
use Rattle.emtp_walk.specs.declared.deck.Place.{Place}
use Rattle.emtp_walk.specs.declared.deck.Place.TheVariants.{Control}
use Rattle.emtp_netcards.specs.declared.source_card.SourceCard.{SourceCard}
use Rattle.indexmap.specs.IndexSet.{insert_key}

abbrev pub extra_name : ExtraEntry → List ℕ
extra_name (DeviceEntry card first count) = card.name
extra_name (FormulaEntry card) = card.name

-- a name keeps its first place
abbrev pub with_variable : List (List ℕ) → List ℕ → List (List ℕ)
with_variable names name = insert_key bytes_eq names name

abbrev pub with_block_name : List (List ℕ) → BlockEntry → List (List ℕ)
with_block_name names e = with_variable names e.card.name

abbrev pub with_source_name : List (List ℕ) → SourceCard → List (List ℕ)
with_source_name names card = with_variable names card.name

abbrev pub with_extra_name : List (List ℕ) → ExtraEntry → List (List ℕ)
with_extra_name names e = with_variable names (extra_name e)

-- the card of a group that the file cuts off defines a variable too
abbrev pub with_control_pending : List (List ℕ) → ControlPlace → List (List ℕ)
with_control_pending names Blocks = names
with_control_pending names (Numerator card) = with_variable names card.name
with_control_pending names (Denominator card top line) = with_variable names card.name
with_control_pending names TacsSources = names
with_control_pending names Extras = names
with_control_pending names (DevicePoints group) = with_variable names group.card.name
with_control_pending names TacsOutputs = names
with_control_pending names Initial = names

abbrev pub with_pending_variable : List (List ℕ) → Place → List (List ℕ)
with_pending_variable names (Control at) = with_control_pending names at
with_pending_variable names other = names

-- the variables that the cards define, after the six of every case
abbrev pub defined_variables : ControlCards → List (List ℕ)
defined_variables cards =
    fold with_extra_name (fold with_source_name (fold with_block_name standing_names cards.blocks) cards.sources)
    cards.extras

abbrev pub variable_names : Deck → Place → List (List ℕ)
variable_names deck place = with_pending_variable (defined_variables deck.control) place

-- the number of a variable, from 0
abbrev pub find_variable : List (List ℕ) → List ℕ → Option ℕ
find_variable variables name = position (bytes_eq name) variables

-- the same, or how many there are where no variable has the name
abbrev pub variable_number : List (List ℕ) → List ℕ → ℕ
variable_number variables name = unwrap_or (find_variable variables name) (length variables)

-- a name that is there has to be that of a variable
abbrev pub unknown_name : List (List ℕ) → ℕ → Option (List ℕ) → Option Fault
unknown_name variables column None = None
unknown_name variables column (Some name) =
    if is_some (find_variable variables name) then None else Some (record { column = column; why = UnknownName })
