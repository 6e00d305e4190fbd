-- What a branch card without a fault of sense gives its records, behind these parts of a case, which have its nodes.
use Rattle.emtp_case.specs.declared.limit.TheConstants.{MOST_BRANCHES, MOST_HISTORY_VALUES, MOST_POINTS}
use Rattle.std.specs.Prelude.{◌≡◌, ◌+◌, ◌<◌, ◌≤◌, ℤ, Bool, List, length, None, true}
use Rattle.emtp_case.specs.held.Branch.{IsCharacteristic}
use Rattle.emtp_case.specs.HistoryValues.{history_values_of}
use Rattle.emtp_case.specs.held.Range.{AreEnds}
use Rattle.emtp_case.specs.declared.branch.Point.{Point}
use Rattle.emtp_case.specs.declared.case.Parts.{Parts}
use Rattle.emtp_deck.specs.Branches.{card_history}
use Rattle.emtp_deck.specs.held.Branches.{pair_history}
use Rattle.emtp_deck.specs.Copies.{missing_fault, values_behind}
use Rattle.emtp_sense.specs.Names.{node_number}
use Rattle.emtp_walk.specs.held.Sound.{has_points, is_reactor}
use Rattle.emtp_netcards.specs.declared.branch_card.BranchCard.{BranchCard}
use Rattle.emtp_netcards.specs.declared.branch_card.BranchKind.{BranchKind}
use Rattle.emtp_netcards.specs.declared.branch_card.BranchKind.TheVariants.{Line as LineKind, Reactor as ReactorKind, Resistor as ResistorKind, Second as SecondKind, Series as SeriesKind, Third as ThirdKind}

-- the points of one branch
pub record AreOwnPoints (reactor : Bool) (dt : ℤ) (points : List Point) : Type 0 where
  pub some : 1 ≤ length points
  pub few : length points ≤ MOST_POINTS
  pub characteristic : IsCharacteristic reactor dt points

-- a card has its points, where it has any
abbrev pub HasOwnPoints : ℤ → List Point → BranchCard → Type 0
HasOwnPoints dt points card = has_points card ≡ true → AreOwnPoints (is_reactor card.values) dt points

-- the card has the numbers of a line
abbrev pub IsLineKind : BranchKind → Type 0
IsLineKind SeriesKind = ⊥
IsLineKind LineKind = Unit {0}
IsLineKind SecondKind = Unit {0}
IsLineKind ThirdKind = ⊥
IsLineKind ReactorKind = ⊥
IsLineKind ResistorKind = ⊥

abbrev pub HasEnds : Parts → BranchCard → Type 0
HasEnds p card = AreEnds (length p.nodes) (node_number p.nodes card.from) (node_number p.nodes card.to)

-- the values that a card takes are there
abbrev pub FindsValues : Parts → BranchCard → Type 0
FindsValues p card = missing_fault (values_behind p card) ≡ None

pub record IsSensibleSingle (p : Parts) (card : BranchCard) : Type 0 where
  pub room : length p.branches < MOST_BRANCHES
  pub ends : HasEnds p card
  pub taken : FindsValues p card
  pub history : history_values_of p + card_history 1 p card ≤ MOST_HISTORY_VALUES

pub record IsSensibleTrio (p : Parts) (zero' positive third : BranchCard) : Type 0 where
  pub room : length p.branches + 3 ≤ MOST_BRANCHES
  pub zero_ends : HasEnds p zero'
  pub positive_ends : HasEnds p positive
  pub third_ends : HasEnds p third
  pub zero_taken : FindsValues p zero'
  pub positive_taken : FindsValues p positive
  pub history : history_values_of p + pair_history p zero' positive ≤ MOST_HISTORY_VALUES
