use Rattle.std.proofs.Common.{refl}
use Rattle.emtp_listing.specs.ControlLines.{input_entry}
use Rattle.emtp_listing.proofs.Loops.{entry-more}
use Rattle.emtp_listing.proofs.control.put_each_input.Goals as goal

pub loop-input-preserved : goal.loop-input-preserved
loop-input-preserved c =
    entry-more (input_entry c.args.parts.now.vars) c.args.inputs.now c.args.inputs.now c.loop-input.input-index _ refl c.loop-input-test.true c.loop-input.invariant c.in_ok-put_input.ensures
