use Rattle.std.proofs.Common.{ℤ, List}
use Rattle.std.proofs.lemmas.Result.{err_from_is_err_and}
use Rattle.emtp_elim.specs.Matrix.{Matrix}
use Rattle.emtp_elim.specs.held.Finished.{IsMatrixFault}
use Rattle.emtp_elim.specs.Outcome.{outcome}
use Rattle.emtp_elim.specs.held.Outcome.{EndsInFault}
use Rattle.emtp_elim.specs.declared.fault.PlainFault.{PlainFault}
use Rattle.emtp_elim.specs.declared.fault.PlainFault.TheVariants.{Row, Solve, NoMemory}
use Rattle.emtp_elim.proofs.Outcomes.{outcome_row}
use Rattle.emtp_elim.proofs.plain.eliminate_plain.Goals as goal

-- a fault of the matrix is that of the system
ends_in_matrix_fault : (rows : Matrix) (right : List ℤ) (fault : PlainFault) → IsMatrixFault rows fault → EndsInFault (outcome rows right) fault
ends_in_matrix_fault rows right (Row fault) is = outcome_row rows right fault.row fault.cause is
ends_in_matrix_fault rows right (Solve fault) is = absurd is
ends_in_matrix_fault rows right NoMemory is = tt

pub returns-in_err-done-clause-fault : goal.returns-in_err-done-clause-fault
returns-in_err-done-clause-fault g c =
    let returned = err_from_is_err_and c.from_residual.result c.from_residual.ensures.1 in
    rw (returned.1, returned.2) (ends_in_matrix_fault (g.R.Rows.matrix c.args.rows.now) c.args.rhs.now _ c.in_err-done.ensures.fault)
