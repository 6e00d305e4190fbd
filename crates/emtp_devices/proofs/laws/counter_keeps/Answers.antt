use Rattle.emtp_devices.proofs.NextStates.{counter-keeps}
use Rattle.emtp_devices.proofs.laws.counter_keeps.Goals as goal

pub returns : goal.returns
returns c = λ case step values past off. counter-keeps case c.args.device.now step values past c.requires off
