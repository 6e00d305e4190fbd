use Rattle.std.proofs.Common.{rules}
use Rattle.emtp_expr.proofs.pending.Pending.rank.Goals as goal

pub returns-in-Not : goal.returns-in-Not
returns-in-Not c = search rules
