use Rattle.std.proofs.Common.{arith}
use Rattle.emtp_phasor.proofs.BranchLists.{places_all}
use Rattle.emtp_phasor.proofs.node_branches.branches_at.Goals as goal

pub returns : goal.returns
returns c = places_all c.args.case.now.parts c.args.node c.loop-at.at c.loop-at.places.items (omega (arith, c.loop-at.auto.at-end, c.loop-at-test.false, c.len-at-end.ensures)) c.loop-at.invariant
