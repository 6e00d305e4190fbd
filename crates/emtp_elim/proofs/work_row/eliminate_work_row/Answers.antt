use Rattle.std.proofs.Common.{rules}
use Rattle.emtp_elim.proofs.work_row.eliminate_work_row.Goals as goal

pub returns-clause-steps : goal.returns-clause-steps
returns-clause-steps g c = search rules
