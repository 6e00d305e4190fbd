-- Beside `BranchCard`: what values hold for their proofs, and what premises say. No clause of the program reaches it.
use Rattle.std.specs.Prelude.{◌≤◌, ℤ}
use Rattle.emtp_case.specs.held.Branch.{HasLineNumbers, HasSeriesNumbers}
use Rattle.emtp_netcards.specs.held.Fields.{AreEndNames}
use Rattle.emtp_netcards.specs.declared.branch_card.BranchCard.{BranchCard}
use Rattle.emtp_netcards.specs.declared.branch_card.BranchKind.{BranchKind}
use Rattle.emtp_netcards.specs.declared.branch_card.BranchKind.TheVariants.{Line as LineKind, Reactor as ReactorKind, Resistor as ResistorKind, Second as SecondKind, Series as SeriesKind, Third as ThirdKind}
use Rattle.emtp_netcards.specs.declared.branch_card.BranchValues.{BranchValues}
use Rattle.emtp_netcards.specs.declared.branch_card.BranchValues.TheVariants.{Copied as CopiedCard, Line as LineCard, Lumped as LumpedCard, Reactor as ReactorCard, Resistor as ResistorCard, Second as SecondCard, Third as ThirdCard}

-- what the numbers of a card keep
abbrev pub HasValues : ℤ → BranchValues → Type 0
HasValues dt (LumpedCard r l c) = HasSeriesNumbers dt r l c
HasValues dt (LineCard zc r delay) = HasLineNumbers dt zc r delay
HasValues dt (SecondCard zc r delay) = HasLineNumbers dt zc r delay
HasValues dt ThirdCard = Unit {0}
HasValues dt ReactorCard = Unit {0}
HasValues dt ResistorCard = Unit {0}
HasValues dt (CopiedCard kind a b) = Unit {0}

-- what a card keeps: its ends are there, and its own numbers are in range
pub record HasNumbers (dt : ℤ) (card : BranchCard) : Type 0 where
  pub ends : AreEndNames card.from card.to
  pub values : HasValues dt card.values
  pub few : card.asked ≤ 3

-- the type that a card's values belong to
abbrev pub kind_of_values : BranchValues → BranchKind
kind_of_values (LumpedCard r l c) = SeriesKind
kind_of_values (LineCard zc r delay) = LineKind
kind_of_values (SecondCard zc r delay) = SecondKind
kind_of_values ThirdCard = ThirdKind
kind_of_values ReactorCard = ReactorKind
kind_of_values ResistorCard = ResistorKind
kind_of_values (CopiedCard kind a b) = kind
