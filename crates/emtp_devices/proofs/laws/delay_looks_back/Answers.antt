use Rattle.emtp_devices.proofs.NextStates.{delay-back}
use Rattle.emtp_devices.proofs.laws.delay_looks_back.Goals as goal

pub returns : goal.returns
returns c = λ case step values past k. delay-back case c.args.device.now step values past k c.requires
