use Rattle.std.proofs.Common.{rules}
use Rattle.emtp_comtrade.proofs.stream.flush.Goals as goal

pub returns-clause-written : goal.returns-clause-written
returns-clause-written g c = search rules
