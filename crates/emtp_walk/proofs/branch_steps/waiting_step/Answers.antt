use Rattle.std.proofs.Common.{rules}
use Rattle.emtp_walk.specs.Walk.{waiting_step}
use Rattle.emtp_walk.proofs.branch_steps.waiting_step.Goals as goal

pub returns-clause-value : goal.returns-clause-value
unfolding waiting_step
returns-clause-value c = search rules
