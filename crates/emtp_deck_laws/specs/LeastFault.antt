-- The least fault of a deck, by line, column and number.
use Rattle.std.specs.List.{Any}
use Rattle.std.specs.Prelude.{◌≡◌, ◌==◌, nat_lt, Bool, false, ◌||◌, ◌&&◌, List}
use Rattle.emtp_card.specs.Fault.{comes_before}
use Rattle.emtp_card.specs.held.Fault.{IsIn}
use Rattle.emtp_card.specs.declared.fault.Fault.{Fault}
use Rattle.emtp_card.specs.declared.reason.Bad.{Bad}
use Rattle.emtp_deck_laws.specs.JudgedCards.{Judged}

-- the fault of a refusal, on its line
abbrev pub fault_of_bad : Bad → Fault
fault_of_bad bad = record { column = bad.column; why = bad.why }

-- by the lesser line, there by the lesser column, and there by the lesser number of the reason
abbrev pub is_refused_before : Bad → Bad → Bool
is_refused_before a b = nat_lt a.line b.line || ((a.line == b.line) && comes_before (fault_of_bad a) (fault_of_bad b))

-- the card has this fault
abbrev pub HasFault : Bad → Judged → Type 0
HasFault bad card = (card.line ≡ bad.line) × IsIn (fault_of_bad bad) card.faults

-- one of the cards has it
abbrev pub IsFaultAmong : List Judged → Bad → Type 0
IsFaultAmong cards bad = Any (HasFault bad) cards

-- one of the cards has it, and no card has one that comes before it
pub record IsLeastAmong (cards : List Judged) (bad : Bad) : Type 0 where
  pub there : IsFaultAmong cards bad
  pub least : (other : Bad) → IsFaultAmong cards other → is_refused_before other bad ≡ false
