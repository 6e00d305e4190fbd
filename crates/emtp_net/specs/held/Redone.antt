-- Beside `Redone`: what values hold for their proofs, and what premises say. No clause of the program reaches it.
use Rattle.std.specs.Prelude.{ℕ, List, length}
use Rattle.emtp_elim.specs.Matrix.{Matrix}
use Rattle.emtp_case.specs.StepRecord.{StepRecord}
use Rattle.emtp_case.specs.declared.case.Parts.{Parts}
use Rattle.emtp_tail.specs.Redone.{matrix_before, rows_next}
use Rattle.emtp_tail.specs.held.Redone.{rows_after, rows_over}
use Rattle.emtp_net.specs.System.{matrix}

-- the nodal matrix of the last step, of which record 0 has none
abbrev pub last_matrix : Parts → List StepRecord → Matrix
last_matrix case H = matrix_before (matrix case) H

-- the rows of the next step's matrix from the first one on that differs from the last step's
abbrev pub step_ticks : Parts → List StepRecord → ℕ
step_ticks case H = rows_next (length case.nodes) (matrix case) H

-- the ticks of the step that follows the records; no step makes record 0
abbrev pub step_ticks_after : Parts → List StepRecord → ℕ
step_ticks_after case H = rows_after (length case.nodes) (matrix case) H

-- the ticks of the steps that made the records
abbrev pub net_ticks : Parts → List StepRecord → ℕ
net_ticks case H = rows_over (length case.nodes) (matrix case) H
