use Rattle.std.proofs.Common.{rules}
use Rattle.emtp_switch.proofs.states.breaker_state.Goals as goal

pub returns-then-interrupts : goal.returns-then-interrupts
returns-then-interrupts c = search rules

pub returns-else-is_due : goal.returns-else-is_due
returns-else-is_due c = search rules
