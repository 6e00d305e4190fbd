use Rattle.std.proofs.Common.{rules}
use Rattle.emtp_switch.proofs.states.valve_state.Goals as goal

pub returns-then-view : goal.returns-then-view
returns-then-view c = search rules
