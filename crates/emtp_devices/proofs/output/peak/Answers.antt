use Rattle.std.proofs.Common.{rules}
use Rattle.emtp_devices.proofs.output.peak.Goals as goal

pub returns-then-step-eq1 : goal.returns-then-step-eq1
returns-then-step-eq1 c = search rules

pub returns-else-step-eq1 : goal.returns-else-step-eq1
returns-else-step-eq1 c = search rules
