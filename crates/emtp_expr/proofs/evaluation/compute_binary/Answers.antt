use Rattle.std.proofs.Common.{rules}
use Rattle.emtp_expr.proofs.evaluation.compute_binary.Goals as goal

pub returns-in-Some-binary : goal.returns-in-Some-binary
returns-in-Some-binary c = search rules

pub returns-in-None : goal.returns-in-None
returns-in-None c = search rules
