use Rattle.std.proofs.Common.{rules}
use Rattle.emtp_walk.proofs.branch_steps.is_second.Goals as goal

pub returns-in-Ok-Second : goal.returns-in-Ok-Second
returns-in-Ok-Second c = search rules
