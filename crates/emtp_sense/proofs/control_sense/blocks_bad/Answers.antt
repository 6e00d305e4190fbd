use Rattle.std.proofs.Common.{arith, sym, ◌∙◌}
use Rattle.emtp_sense.proofs.ControlJudging.{block_fine, blocks_next}
use Rattle.emtp_sense.proofs.control_sense.blocks_bad.Goals as goal

pub loop-entry-preserved : goal.loop-entry-preserved
loop-entry-preserved c =
    let none = sym c.block_bad.ensures ∙ c.in_default.is in
    let fine = block_fine c.args.variables.now.keys c.loop-entry.at c.entry-item.result.card none in
    record {
      same = c.loop-entry.invariant.same ∙ blocks_next c.args.variables.now.keys c.loop-entry.at c.args.entries.now c.loop-entry.entry-index c.entry-item.result c.entry-item.is c.loop-entry-test.true none;
      few = omega (arith, fine.room);
    }
