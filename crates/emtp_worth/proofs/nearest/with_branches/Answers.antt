use Rattle.emtp_case.specs.StepRecord.{latest}
use Rattle.emtp_worth.proofs.Nearing.{branches_next}
use Rattle.emtp_worth.proofs.nearest.with_branches.Goals as goal

pub loop-at-preserved : goal.loop-at-preserved
loop-at-preserved g c =
    branches_next c.args.case.now.parts c.args.node (latest (g.R.Run.records c.args.run.now)) c.as_slice-branches.result.now c.loop-at.at _ c.loop-at.best c.with_branch-best.result _
    c.loop-at-test.true c.with_branch-best.ensures c.loop-at.invariant
