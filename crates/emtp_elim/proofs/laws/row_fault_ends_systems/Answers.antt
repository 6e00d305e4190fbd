use Rattle.emtp_elim.proofs.Outcomes.{outcome_row}
use Rattle.emtp_elim.proofs.laws.row_fault_ends_systems.Goals as goal

pub returns : goal.returns
returns c = λ rows right fault is. outcome_row rows right fault.row fault.cause is
