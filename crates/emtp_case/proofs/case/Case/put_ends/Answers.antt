use Rattle.std.proofs.lemmas.Grind.{common_steps}
use Rattle.std.proofs.Common.{arith}
use Rattle.emtp_case.proofs.case.Case.put_ends.Goals as goal

pub returns-clause-text : goal.returns-clause-text
returns-clause-text c = grind (arith, common_steps)
