use Rattle.emtp_walk.proofs.DevicePoints.{device_ended}
use Rattle.emtp_walk.proofs.device_steps.end_device.Goals as goal

pub keep_extra-requires-clause-extra : goal.keep_extra-requires-clause-extra
keep_extra-requires-clause-extra c = device_ended c.args.deck.now c.args.group.now c.requires.group c.requires.some
