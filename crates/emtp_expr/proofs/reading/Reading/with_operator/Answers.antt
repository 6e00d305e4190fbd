use Rattle.std.proofs.Common.{rules}
use Rattle.emtp_expr.specs.Reading.{with_operator}
use Rattle.emtp_expr.proofs.reading.Reading.with_operator.Goals as goal

pub returns-then-rank-ne4 : goal.returns-then-rank-ne4
unfolding with_operator
returns-then-rank-ne4 c = search rules
