-- Beside `Copies`: what values hold for their proofs, and what premises say. No clause of the program reaches it.
use Rattle.emtp_case.specs.declared.limit.TheConstants.{MOST_HISTORY_VALUES}
use Rattle.std.specs.Prelude.{Option, Some, ℤ, ◌+◌, ◌≡◌, ◌≤◌}
use Rattle.emtp_case.specs.HistoryValues.{history_values_of, trio_history_values}
use Rattle.emtp_case.specs.held.Branch.{IsBranch, IsTrio}
use Rattle.emtp_case.specs.held.Sizes.{sizes_of}
use Rattle.emtp_case.specs.declared.branch.Branch.{Branch}
use Rattle.emtp_case.specs.declared.branch.Trio.{Trio}
use Rattle.emtp_case.specs.declared.case.Parts.{Parts}
use Rattle.emtp_deck.specs.Branches.{line_history}
use Rattle.emtp_deck.specs.declared.copies.LineNumbers.{LineNumbers}
use Rattle.emtp_deck.specs.declared.copies.Taken.{Taken}
use Rattle.emtp_deck.specs.declared.copies.TakenPair.{TakenPair}
use Rattle.emtp_deck.specs.declared.copies.ValuesFrom.{ValuesFrom}
use Rattle.emtp_deck.specs.declared.copies.ValuesFrom.TheVariants.{Card as OwnValues, Earlier, Missing}
use Rattle.emtp_deck.specs.Copies.{modes_for, numbers_behind, type_of_branch, type_of_kind, values_behind}
use Rattle.emtp_netcards.specs.held.BranchCard.{kind_of_values}
use Rattle.emtp_netcards.specs.declared.branch_card.BranchCard.{BranchCard}

-- an earlier branch is one of the case, and of the card's type
pub record IsEarlier (p : Parts) (type : ℤ) (b : Branch) : Type 0 where
  pub there : IsBranch p.run (sizes_of p) p.points b
  pub same : type_of_branch b ≡ type

abbrev pub IsTaken : Parts → ℤ → ValuesFrom → Type 0
IsTaken p type OwnValues = Unit {0}
IsTaken p type (Earlier b) = IsEarlier p type b
IsTaken p type Missing = Unit {0}

-- what a card takes behind these parts, found once
pub record IsTakenBy (p : Parts) (card : BranchCard) (taken : Taken) : Type 0 where
  pub values_are : taken.values ≡ values_behind p card
  pub numbers_are : taken.numbers ≡ numbers_behind p card
  pub kind : IsTaken p (type_of_kind (kind_of_values card.values)) taken.values

pub record AreTakenBy (p : Parts) (zero' positive : BranchCard) (taken : TakenPair) : Type 0 where
  pub zero_taken : IsTakenBy p zero' taken.zero_sequence
  pub positive_taken : IsTakenBy p positive taken.positive_sequence

-- both cards have numbers, and the case has room for the history values of their modes
pub record HasModes (p : Parts) (z q : Option LineNumbers) : Type 0 where
  pub modes : Trio
  pub are : modes_for z q ≡ Some modes
  pub range : IsTrio p.run modes
  pub values : line_history 1 p.run.dt z + line_history 3 p.run.dt q ≡ trio_history_values p.run.dt modes
  pub history : history_values_of p + trio_history_values p.run.dt modes ≤ MOST_HISTORY_VALUES
