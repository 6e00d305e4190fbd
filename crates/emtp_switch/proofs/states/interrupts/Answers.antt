use Rattle.std.proofs.Common.{rules}
use Rattle.emtp_switch.proofs.states.interrupts.Goals as goal

pub returns-else-unsigned_abs : goal.returns-else-unsigned_abs
returns-else-unsigned_abs c = search rules
