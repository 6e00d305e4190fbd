use Rattle.std.proofs.Common.{rules}
use Rattle.emtp_elim.proofs.sparse.eliminate_row.Goals as goal

pub returns-clause-steps : goal.returns-clause-steps
returns-clause-steps g c = search rules
