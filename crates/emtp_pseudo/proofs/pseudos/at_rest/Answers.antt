use Rattle.std.proofs.Common.{◌+◌, List, sym, subst, length, get_or, ap, arith}
use Rattle.emtp_case.specs.declared.branch.Branch.{Branch}
use Rattle.emtp_pseudo.proofs.Holding.{branch_has_numbers, one_more_at_rest}
use Rattle.emtp_pseudo.specs.held.Pseudos.{AreHeldAtRest}
use Rattle.emtp_pseudo.proofs.pseudos.at_rest.Goals as goal

pub rest-requires : goal.rest-requires
rest-requires c =
    let case = c.args.case.now.parts in
    let k = c.loop-branch.branch-index in
    rw c.as_slice-branch-items.ensures (branch_has_numbers case _ (c.args.case.now.fits.draft.network.branches k _ (omega (arith, ap length c.as_slice-branch-items.ensures))))

pub loop-branch-preserved : goal.loop-branch-preserved
loop-branch-preserved c =
    let case = c.args.case.now.parts in
    subst (AreHeldAtRest case (c.loop-branch.branch-index + 1)) (sym c.in_ok-push.ensures.items)
    (one_more_at_rest case c.loop-branch.branch-index c.loop-branch.held.items _ _ c.rest.result c.loop-branch.invariant (ap (λ (bs : List Branch). get_or bs c.loop-branch.branch-index _) c.as_slice-branch-items.ensures) c.rest.ensures)
