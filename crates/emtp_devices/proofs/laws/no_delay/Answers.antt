use Rattle.emtp_devices.proofs.NextStates.{no-delay}
use Rattle.emtp_devices.proofs.laws.no_delay.Goals as goal

pub returns : goal.returns
returns c = λ case step values past. no-delay case c.args.device.now step values past c.requires.code c.requires.a
