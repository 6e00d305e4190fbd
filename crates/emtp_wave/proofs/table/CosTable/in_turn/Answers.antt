use Rattle.std.proofs.Common.{arith}
use Rattle.std.proofs.lemmas.Grind.{common_steps}
use Rattle.emtp_wave.proofs.table.CosTable.in_turn.Goals as goal

pub returns-then-p-clause-value : goal.returns-then-p-clause-value
returns-then-p-clause-value c = grind (arith, common_steps)
