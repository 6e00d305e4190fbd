use Rattle.std.proofs.Common.{rules}
use Rattle.emtp_devices.proofs.output.counted.Goals as goal

pub returns-then-reset : goal.returns-then-reset
returns-then-reset c = search rules
