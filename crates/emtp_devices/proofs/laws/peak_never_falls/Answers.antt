use Rattle.emtp_devices.proofs.NextStates.{peak-stays}
use Rattle.emtp_devices.proofs.laws.peak_never_falls.Goals as goal

pub returns : goal.returns
returns c = λ case step values past. peak-stays case c.args.device.now step values past c.requires.code c.requires.a
