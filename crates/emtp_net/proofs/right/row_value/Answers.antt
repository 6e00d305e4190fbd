use Rattle.std.proofs.Common.{rules}
use Rattle.emtp_net.proofs.right.row_value.Goals as goal

pub returns-in-Tie : goal.returns-in-Tie
returns-in-Tie c = search rules
