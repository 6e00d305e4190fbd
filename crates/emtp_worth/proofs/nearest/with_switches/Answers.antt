use Rattle.emtp_case.specs.StepRecord.{latest}
use Rattle.emtp_worth.proofs.Nearing.{switches_next}
use Rattle.emtp_worth.proofs.nearest.with_switches.Goals as goal

pub loop-at-preserved : goal.loop-at-preserved
loop-at-preserved g c =
    switches_next c.args.case.now.parts c.args.node (latest (g.R.Run.records c.args.run.now)) c.as_slice-switches.result.now c.loop-at.at _ c.loop-at.best c.with_switch-best.result _
    c.loop-at-test.true c.with_switch-best.ensures c.loop-at.invariant
