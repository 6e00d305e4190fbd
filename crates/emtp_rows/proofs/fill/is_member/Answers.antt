use Rattle.std.proofs.Common.{arith}
use Rattle.std.proofs.lemmas.Grind.{common_steps}
use Rattle.emtp_rows.proofs.fill.is_member.Goals as goal

pub returns-else-k-i : goal.returns-else-k-i
returns-else-k-i c = grind (arith, common_steps)
