use Rattle.std.proofs.Common.{rules}
use Rattle.emtp_case.proofs.switch.Switch.with_times.Goals as goal

pub returns-in-Time : goal.returns-in-Time
returns-in-Time c = search rules
