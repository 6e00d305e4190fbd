use Rattle.std.proofs.Common.{◌≡◌, ◌∙◌, length-set, true, arith}
use Rattle.emtp_switch.proofs.Plans.{known_are, known_more}
use Rattle.emtp_switch.proofs.plan.know.Goals as goal

pub loop-row-preserved : goal.loop-row-preserved
loop-row-preserved c =
    let known = c.loop-row.known.items in
    let node = c.node_at.result in (
      length-set known node true ∙ c.loop-row.invariant.0,
      known_more c.args.order.now.nodes c.args.rows c.loop-row.row node known c.loop-row.invariant.0 (omega (arith, c.requires.rows, c.source_rows-row-end.ensures.within)) c.node_at.ensures.node (omega (arith, c.node_at.ensures.high)) c.loop-row.invariant.1,
    )

pub returns-clause-marks : goal.returns-clause-marks
returns-clause-marks c =
    let last : c.loop-row.row ≡ c.source_rows-row-end.result = omega (arith, c.loop-row-test.false, c.loop-row.auto.row-end) in
    known_are c.args.order.now c.args.rows c.loop-row.row c.loop-row.known.items c.requires.rows (last ∙ c.source_rows-row-end.ensures.value) c.loop-row.invariant.1
