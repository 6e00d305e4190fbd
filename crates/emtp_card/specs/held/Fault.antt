-- Beside `Fault`: what values hold for their proofs, and what premises say. No clause of the program reaches it.
use Rattle.std.specs.Prelude.{◌≡◌, ◌⊎◌, ℕ, [], ◌∷◌, false, List, Option, Some, None, option_map, Result, Ok, Err, if◌then◌else◌}
use Rattle.emtp_card.specs.Lines.{is_section_end}
use Rattle.emtp_card.specs.declared.fault.Fault.{Fault}
use Rattle.emtp_card.specs.declared.reason.Bad.{Bad}
use Rattle.emtp_card.specs.declared.reason.Why.{Why}
use Rattle.emtp_card.specs.Fault.{bad_at, comes_before, judge}

-- the fault of a field that was read, in its first column
abbrev pub fault_at : {A : Type 0} → ℕ → Result A Why → Option Fault
fault_at column (Ok x) = None
fault_at column (Err why) = Some (record { column = column; why = why })

-- the bytes of a line that would end a section aren't judged where a card is due whatever the line
abbrev pub judge_due : ℕ → List ℕ → Option Fault → Option Bad
judge_due number line fields = if is_section_end line then option_map (bad_at number) fields else judge number line fields

-- no fault of the list comes before this one
abbrev pub IsNotAfter : Fault → List (Option Fault) → Type 0
IsNotAfter f [] = Unit {0}
IsNotAfter f (g ∷ gs) = ((x : Fault) → g ≡ Some x → comes_before x f ≡ false) × IsNotAfter f gs

-- the fault is in the list
abbrev pub IsIn : Fault → List (Option Fault) → Type 0
IsIn f [] = ⊥
IsIn f (g ∷ gs) = (g ≡ Some f) ⊎ IsIn f gs

-- the fault is in the list, and none of the list comes before it
pub record IsLeastOf (faults : List (Option Fault)) (f : Fault) : Type 0 where
  pub there : IsIn f faults
  pub first : IsNotAfter f faults
