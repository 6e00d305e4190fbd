use Rattle.std.proofs.Common.{arith}
use Rattle.emtp_listing.specs.ControlLines.{power_entry}
use Rattle.emtp_listing.proofs.Loops.{power-more}
use Rattle.emtp_listing.proofs.control.put_powers.Goals as goal

pub loop-coefficient-preserved : goal.loop-coefficient-preserved
loop-coefficient-preserved c = record {
  power = omega (arith, c.loop-coefficient.invariant.power);
  text = power-more power_entry c.args.card.now c.loop-coefficient.coefficient-index 0 c.loop-coefficient.power _ c.loop-coefficient-test.true c.loop-coefficient.invariant.power
      c.loop-coefficient.invariant.text c.in_ok-put_power.ensures;
}
