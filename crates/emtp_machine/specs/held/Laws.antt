-- Beside `Laws`: what values hold for their proofs, and what premises say. No clause of the program reaches it.
use Rattle.std.specs.Prelude.{◌≡◌, List, [], ◌∷◌, length, Ok, Err}
use Rattle.emtp_case.specs.StepRecord.{StepRecord, rest_of}
use Rattle.emtp_case.specs.declared.case.Parts.{Parts}
use Rattle.emtp_machine.specs.History.{end_at}
use Rattle.emtp_machine.specs.Next.{Fault, next}
use Rattle.emtp_machine.specs.declared.end.End.{End}

-- the first record is rest, and each other one is the record after those before it
abbrev pub IsChain : Parts → List StepRecord → Type 0
IsChain case [] = ⊥
IsChain case (r ∷ []) = r ≡ rest_of case
IsChain case (r ∷ s ∷ past) = (next case (s ∷ past) ≡ Ok r) × IsChain case (s ∷ past)

-- an end is that of the step after the records: there is no next record
pub record IsRefusal (case : Parts) (H : List StepRecord) (end : End) : Type 0 where
  pub fault : Fault
  pub refused : next case H ≡ Err fault
  pub is : end ≡ end_at (length H) fault
