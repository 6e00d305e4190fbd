use Rattle.std.proofs.Common.{rules}
use Rattle.emtp_expr.proofs.operators.whole.Goals as goal

pub returns-clause-value : goal.returns-clause-value
returns-clause-value c = search rules
