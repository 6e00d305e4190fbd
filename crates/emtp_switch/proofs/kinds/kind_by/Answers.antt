use Rattle.std.proofs.Common.{rules}
use Rattle.emtp_switch.proofs.kinds.kind_by.Goals as goal

pub returns-then-single : goal.returns-then-single
returns-then-single c = search rules

pub returns-else-single : goal.returns-else-single
returns-else-single c = search rules
