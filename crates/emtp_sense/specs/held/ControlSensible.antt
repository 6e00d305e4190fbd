-- What is known of the cards of the control without a fault of sense.
use Rattle.std.specs.Option.{ForSome}
use Rattle.std.specs.Prelude.{All, Bool, List, Option, length, option_map, true, ℕ, ◌<◌, ◌≡◌, ◌≤◌}
use Rattle.emtp_sense.specs.ControlSense.{is_measurable}
use Rattle.emtp_sense.specs.Variables.{variable_number}
use Rattle.emtp_walk.specs.declared.control_cards.BlockEntry.{BlockEntry}
use Rattle.emtp_walk.specs.declared.control_cards.ExtraEntry.{ExtraEntry}
use Rattle.emtp_walk.specs.declared.control_cards.ExtraEntry.TheVariants.{Device as DeviceEntry, Formula as FormulaEntry}
use Rattle.emtp_netcards.specs.declared.source_card.SourceCard.{SourceCard}
use Rattle.emtp_netcards.specs.declared.switch_card.SwitchCard.{SwitchCard}
use Rattle.emtp_taccards.specs.Inputs.{inputs}
use Rattle.emtp_taccards.specs.declared.device_card.DeviceCard.{DeviceCard}
use Rattle.emtp_taccards.specs.declared.formula_card.FormulaCard.{FormulaCard}

-- a name that is there is that of a variable
abbrev pub IsKnown : List (List ℕ) → Option (List ℕ) → Type 0
IsKnown variables name = ForSome name (λ n. variable_number variables n < length variables)

abbrev pub AreKnownInputs : List (List ℕ) → List (Option (Bool × List ℕ)) → Type 0
AreKnownInputs variables inputs =
    All (λ (i : Option (Bool × List ℕ)). IsKnown variables (option_map (λ (x : Bool × List ℕ). x.1) i)) inputs

-- the name that a card defines is that of a variable, and of none of every case
pub record IsDefined (variables : List (List ℕ)) (name : List ℕ) : Type 0 where
  pub own : 6 ≤ variable_number variables name
  pub there : variable_number variables name < length variables

pub record IsSensibleBlock (variables : List (List ℕ)) (e : BlockEntry) : Type 0 where
  pub name : IsDefined variables e.card.name
  pub inputs : AreKnownInputs variables e.card.inputs
  pub low : IsKnown variables e.card.low_name
  pub high : IsKnown variables e.card.high_name

pub record IsSensibleDevice (variables : List (List ℕ)) (card : DeviceCard) : Type 0 where
  pub name : IsDefined variables card.name
  pub inputs : AreKnownInputs variables card.inputs
  pub d : IsKnown variables card.d
  pub e : IsKnown variables card.e

pub record IsSensibleFormula (variables : List (List ℕ)) (card : FormulaCard) : Type 0 where
  pub name : IsDefined variables card.name
  pub names : All (λ n. variable_number variables n < length variables) card.parsed.names

abbrev pub IsSensibleExtra : List (List ℕ) → ExtraEntry → Type 0
IsSensibleExtra variables (DeviceEntry card first count) = IsSensibleDevice variables card
IsSensibleExtra variables (FormulaEntry card) = IsSensibleFormula variables card

pub record IsSensibleTacsSource (nodes : List (List ℕ)) (switches : List SwitchCard) (variables : List (List ℕ))
    (card : SourceCard) : Type 0 where
  pub name : IsDefined variables card.name
  pub measures : is_measurable nodes switches card.name card.shape ≡ true
