use Rattle.emtp_card.proofs.Faults.{some_least}
use Rattle.emtp_card.proofs.fault.least.Goals as goal

pub returns-clause-first : goal.returns-clause-first
returns-clause-first c = some_least c.fold.result c.args.faults.now c.fold.ensures
