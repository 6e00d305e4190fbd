use Rattle.std.proofs.Common.{rules}
use Rattle.emtp_devices.proofs.output.extreme_of_two.Goals as goal

pub returns-then-a-ge0 : goal.returns-then-a-ge0
returns-then-a-ge0 c = search rules

pub returns-else-a-ge0 : goal.returns-else-a-ge0
returns-else-a-ge0 c = search rules
