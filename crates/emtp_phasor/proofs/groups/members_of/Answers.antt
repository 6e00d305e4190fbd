use Rattle.std.proofs.Common.{arith}
use Rattle.emtp_phasor.proofs.GroupLists.{members_all}
use Rattle.emtp_phasor.proofs.groups.members_of.Goals as goal

pub returns : goal.returns
returns c = members_all c.args.kinds.now c.args.i c.loop-at.at c.loop-at.members.items (omega (arith, c.loop-at.auto.at-end, c.loop-at-test.false)) c.loop-at.invariant
