-- Rows eliminated and redone over the steps of a control.
use Rattle.std.proofs.Common.{◌≡◌, ap, ◌+◌, ◌≤◌, List, ◌∷◌, length}
use Rattle.emtp_blocks.proofs.Matrices.{length-control_matrix}
use Rattle.emtp_blocks.specs.System.{control_matrix, limiters_of, matrix}
use Rattle.emtp_case.specs.StepRecord.{StepRecord}
use Rattle.emtp_case.specs.declared.case.Parts.{Parts}
use Rattle.emtp_tail.proofs.RedoneRows.{none_redone as same_redone, rows_next_most, rows_of_run}
use Rattle.emtp_tacs.specs.Redone.{control_redone, control_step_redone}
use Rattle.emtp_tacs.specs.held.Redone.{control_step_ticks, control_ticks}

-- a step eliminates each row at most once
pub most_ticks : (case : Parts) (H : List StepRecord) → control_step_ticks case H ≤ length case.blocks
most_ticks case H = rows_next_most (length case.blocks) (matrix case) H

-- the rows eliminated are those of one matrix and the rows redone, once a step is made
pub ticks_of_run : (case : Parts) (r s : StepRecord) (past : List StepRecord) → control_ticks case (r ∷ s ∷ past) ≡ length case.blocks + control_redone case (r ∷ s ∷ past)
ticks_of_run case r s past = rows_of_run (length case.blocks) (matrix case) r s past

-- where no limiter moved the matrix is the same
pub none_redone : (case : Parts) (r s : StepRecord) (past : List StepRecord) → limiters_of case (r ∷ s ∷ past) ≡ limiters_of case (s ∷ past) → control_step_redone case (r ∷ s ∷ past) ≡ 0
none_redone case r s past same =
    same_redone (length case.blocks) (matrix case) r s past (length-control_matrix case (limiters_of case (s ∷ past))) (ap (control_matrix case) same)
