use Rattle.emtp_line.proofs.Physics.{own_same, mutual_none, current_same}
use Rattle.emtp_line.proofs.laws.equal_modes_part.Goals as goal

pub returns-clause-own : goal.returns-clause-own
returns-clause-own c = own_same c.args.mode.now

pub returns-clause-coupling : goal.returns-clause-coupling
returns-clause-coupling c = mutual_none c.args.mode.now

pub returns-clause-current : goal.returns-clause-current
returns-clause-current c = current_same c.args.mode.now
