use Rattle.std.specs.Prelude.{true, false}
use Rattle.std.proofs.Common.{◌∙◌, sym, arith}
use Rattle.emtp_case.specs.RowOrder.{has_source}
use Rattle.emtp_case.proofs.Ordered.{count_by-range_more}
use Rattle.emtp_case.proofs.row_order.fixed_of.Goals as goal
use Rattle.emtp_case.proofs.row_order.fixed_of.Goals.{then-has_source, else-has_source}

pub loop-at-preserved : goal.loop-at-preserved
loop-at-preserved c = elim c.if-has_source.branch [
  | then-has_source w ↦
      let more = count_by-range_more (has_source c.args.parts.now) c.loop-at.at true (sym w.if-has_source.true ∙ c.has_source.ensures) in
      record { counted = omega (arith, more, w.count-is, c.loop-at.invariant.counted); few = omega (arith, w.count-is, c.loop-at.invariant.few) }
  | else-has_source w ↦
      let more = count_by-range_more (has_source c.args.parts.now) c.loop-at.at false (sym w.if-has_source.false ∙ c.has_source.ensures) in
      record { counted = omega (arith, more, w.count-is, c.loop-at.invariant.counted); few = omega (arith, w.count-is, c.loop-at.invariant.few) }
]
