use Rattle.std.proofs.Common.{sym}
use Rattle.emtp_walk.proofs.ControlNames.{block_name}
use Rattle.emtp_walk.proofs.control_steps.block_step.Goals as goal

pub take_block-requires-clause-block : goal.take_block-requires-clause-block
take_block-requires-clause-block c =
    let line = c.args.line.now in
    record {
      name = block_name line.number line.bytes.now c.in-Ok.card (sym c.in-Ok.ensures.value);
      numbers = c.in-Ok.ensures.numbers;
      limits = c.in-Ok.ensures.limits;
    }
