use Rattle.std.proofs.Common.{rules}
use Rattle.emtp_devices.proofs.inputs.is_positive.Goals as goal

pub returns-in-Some : goal.returns-in-Some
returns-in-Some c = search rules
