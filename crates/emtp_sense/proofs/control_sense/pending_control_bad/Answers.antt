use Rattle.std.proofs.Common.{rules}
use Rattle.emtp_sense.proofs.control_sense.pending_control_bad.Goals as goal

pub returns-in-Control-DevicePoints : goal.returns-in-Control-DevicePoints
returns-in-Control-DevicePoints c = search rules
