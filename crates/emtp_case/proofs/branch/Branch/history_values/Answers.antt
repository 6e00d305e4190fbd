use Rattle.std.proofs.Common.{rules}
use Rattle.emtp_case.proofs.branch.Branch.history_values.Goals as goal

pub returns-in-Line : goal.returns-in-Line
returns-in-Line c = search rules
