use Rattle.std.proofs.Common.{length, ap, sym, arith}
use Rattle.std.proofs.lemmas.List.{map_more}
use Rattle.emtp_case.specs.held.Sizes.{sizes_of}
use Rattle.emtp_line.specs.held.Lines.{rest_at}
use Rattle.emtp_line.proofs.Holding.{branch_has_mode}
use Rattle.emtp_line.proofs.rest.lines_at_rest.Goals as goal

pub mode_of-requires-clause-branch : goal.mode_of-requires-clause-branch
mode_of-requires-clause-branch c =
    let p = c.args.case.now.parts in
    let k = c.loop-branch.branch-index in
    rw c.as_slice-branch-items.ensures (branch_has_mode p.run (sizes_of p) p.points _ (c.args.case.now.fits.draft.network.branches k _ (omega (arith, ap length c.as_slice-branch-items.ensures))))

pub loop-branch-preserved : goal.loop-branch-preserved
loop-branch-preserved c =
    let branches = c.args.case.now.parts.branches in
    let below = rw c.as_slice-branch-items.ensures at c.loop-branch-test.true in
    let is = rw (c.mode_of.ensures.value, c.as_slice-branch-items.ensures) at c.in_ok-at_rest.ensures in
    rw (c.in_ok-push.ensures.items, c.loop-branch.invariant, is) (sym (map_more (rest_at c.args.case.now.parts.run.dt) branches c.loop-branch.branch-index _ below))
