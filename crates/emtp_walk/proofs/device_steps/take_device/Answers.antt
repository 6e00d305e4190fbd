use Rattle.std.proofs.Common.{rules}
use Rattle.emtp_walk.proofs.DevicePoints.{device_alone}
use Rattle.emtp_walk.proofs.device_steps.take_device.Goals as goal

pub keep_extra-requires-clause-extra : goal.keep_extra-requires-clause-extra
keep_extra-requires-clause-extra c = device_alone c.args.deck.now.points c.args.card c.requires.device (search rules)
