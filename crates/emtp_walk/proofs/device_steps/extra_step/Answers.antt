use Rattle.emtp_walk.proofs.ControlNames.{extra_due}
use Rattle.emtp_walk.proofs.device_steps.extra_step.Goals as goal

pub take_extra-requires-clause-extra : goal.take_extra-requires-clause-extra
take_extra-requires-clause-extra c = extra_due c.args.line.now.number c.args.line.now.bytes.now c.in-Ok.card c.in-Ok.ensures.ok c.in-Ok.ensures.numbers
