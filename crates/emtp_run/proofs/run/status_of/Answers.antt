use Rattle.std.proofs.Common.{rules}
use Rattle.emtp_run.proofs.run.status_of.Goals as goal

pub returns-in-Some : goal.returns-in-Some
returns-in-Some c = search rules
