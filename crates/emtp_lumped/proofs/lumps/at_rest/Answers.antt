use Rattle.std.proofs.Common.{length, ap, arith}
use Rattle.std.proofs.lemmas.Grind.{common_steps}
use Rattle.emtp_case.specs.held.Sizes.{sizes_of}
use Rattle.emtp_lumped.proofs.Holding.{branch_has_numbers}
use Rattle.emtp_lumped.proofs.lumps.at_rest.Goals as goal

pub rest-requires-clause-branch : goal.rest-requires-clause-branch
rest-requires-clause-branch c =
    let p = c.args.case.now.parts in
    let k = c.loop-branch.branch-index in
    rw c.as_slice-branch-items.ensures (branch_has_numbers p.run (sizes_of p) p.points _ (c.args.case.now.fits.draft.network.branches k _ (omega (arith, ap length c.as_slice-branch-items.ensures))))

pub loop-branch-preserved : goal.loop-branch-preserved
loop-branch-preserved c = grind (arith, common_steps)
