use Rattle.std.proofs.Common.{arith, rules}
use Rattle.std.proofs.lemmas.Grind.{common_steps}
use Rattle.emtp_expr.specs.Words.{fraction_length}
use Rattle.emtp_expr.proofs.words.fraction_length.Goals as goal

pub returns-in-46-clause-count : goal.returns-in-46-clause-count
unfolding fraction_length
returns-in-46-clause-count c = grind (arith, common_steps)

pub returns-in_default-2-clause-count : goal.returns-in_default-2-clause-count
unfolding fraction_length
returns-in_default-2-clause-count c = search rules
