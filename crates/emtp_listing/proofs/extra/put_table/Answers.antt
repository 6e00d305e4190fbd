use Rattle.std.proofs.Common.{arith, refl}
use Rattle.emtp_listing.specs.ControlLines.{table_line}
use Rattle.emtp_listing.proofs.Loops.{number-more}
use Rattle.emtp_listing.proofs.Chains.{then}
use Rattle.emtp_listing.proofs.extra.put_table.Goals as goal

pub loop-point-preserved : goal.loop-point-preserved
loop-point-preserved c = record {
  number = omega (arith, c.loop-point.invariant.number);
  text = number-more (table_line c.args.code) c.args.points.now c.args.points.now c.loop-point.point-index 1 c.loop-point.number _ refl c.loop-point-test.true c.loop-point.invariant.number
      c.loop-point.invariant.text (then c.in_ok-put_head.ensures c.in_ok-put_pair.ensures) c.in_ok-put_end.ensures;
}
