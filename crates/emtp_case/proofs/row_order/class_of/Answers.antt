use Rattle.std.proofs.Common.{rules}
use Rattle.emtp_case.proofs.row_order.class_of.Goals as goal

pub returns-then-has_pseudo : goal.returns-then-has_pseudo
returns-then-has_pseudo c = search rules
