use Rattle.std.proofs.Common.{rules}
use Rattle.emtp_run.proofs.summary.peak.Goals as goal

pub returns-else-channels-eq0 : goal.returns-else-channels-eq0
returns-else-channels-eq0 c = search rules
