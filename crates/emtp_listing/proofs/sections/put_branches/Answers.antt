use Rattle.emtp_listing.specs.NetworkLines.{branch_group}
use Rattle.emtp_listing.proofs.Loops.{group-more}
use Rattle.emtp_listing.proofs.sections.put_branches.Goals as goal

pub loop-branch-preserved : goal.loop-branch-preserved
loop-branch-preserved c =
    group-more (branch_group c.args.parts.now.nodes c.args.parts.now.points) c.args.parts.now.branches c.as_slice-branch-items.result.now c.loop-branch.branch-index _
    c.as_slice-branch-items.ensures c.loop-branch-test.true c.loop-branch.invariant c.in_ok-put_branch.ensures
