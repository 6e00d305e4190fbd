use Rattle.std.proofs.Common.{rules}
use Rattle.emtp_walk.proofs.BranchSounding.{group_ended}
use Rattle.emtp_walk.proofs.branch_steps.end_group.Goals as goal

pub returns-clause-sound : goal.returns-clause-sound
returns-clause-sound c = rw c.in_ok-push.ensures.ok (group_ended c.args.deck.now c.args.group.now c.requires.whole c.requires.group c.requires.some)

pub returns-clause-ok : goal.returns-clause-ok
returns-clause-ok c = search rules
