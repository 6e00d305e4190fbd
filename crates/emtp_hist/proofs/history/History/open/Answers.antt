use Rattle.std.proofs.Common.{rules}
use Rattle.emtp_hist.proofs.history.History.open.Goals as goal

pub returns-clause-depth : goal.returns-clause-depth
returns-clause-depth c = search rules
