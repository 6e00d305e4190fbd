use Rattle.std.proofs.Common.{rules}
use Rattle.emtp_sense.proofs.control_sense.second_sense.Goals as goal

pub returns-then-unwrap_or-next : goal.returns-then-unwrap_or-next
returns-then-unwrap_or-next c = search rules

pub returns-else-unwrap_or-next : goal.returns-else-unwrap_or-next
returns-else-unwrap_or-next c = search rules
