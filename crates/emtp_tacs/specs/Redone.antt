-- The rows of the control's matrix that are redone, as emtp_tail counts them.
use Rattle.std.specs.Prelude.{ℕ, List, length}
use Rattle.emtp_blocks.specs.System.{matrix}
use Rattle.emtp_case.specs.StepRecord.{StepRecord}
use Rattle.emtp_case.specs.declared.case.Parts.{Parts}
use Rattle.emtp_tail.specs.Redone.{redone_next, redone_over}

-- those of the next step; the first step counts nothing
abbrev pub control_step_redone : Parts → List StepRecord → ℕ
control_step_redone case H = redone_next (length case.blocks) (matrix case) H

-- those of the steps that made the records
abbrev pub control_redone : Parts → List StepRecord → ℕ
control_redone case H = redone_over (length case.blocks) (matrix case) H
