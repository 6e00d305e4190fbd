use Rattle.std.proofs.Common.{rules}
use Rattle.emtp_fix.proofs.limit.fit.Goals as goal

pub returns-else-unsigned_abs-limit-clause-fits : goal.returns-else-unsigned_abs-limit-clause-fits
returns-else-unsigned_abs-limit-clause-fits c = search rules
