use Rattle.emtp_devices.proofs.NextStates.{steady}
use Rattle.emtp_devices.proofs.laws.steady_input_has_no_derivative.Goals as goal

pub returns : goal.returns
returns c = λ case step values past. steady case c.args.device.now step values past c.requires
