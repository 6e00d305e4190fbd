use Rattle.emtp_devices.proofs.NextStates.{integral-holds, sample-holds}
use Rattle.emtp_devices.proofs.laws.holds_its_value.Goals as goal

pub returns-clause-integral : goal.returns-clause-integral
returns-clause-integral c = λ case step values past. integral-holds case c.args.device.now step values past

pub returns-clause-sample : goal.returns-clause-sample
returns-clause-sample c = λ case step values past. sample-holds case c.args.device.now step values past
