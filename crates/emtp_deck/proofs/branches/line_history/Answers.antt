use Rattle.std.proofs.Common.{arith}
use Rattle.emtp_deck.proofs.Modes.{few_values}
use Rattle.emtp_deck.proofs.branches.line_history.Goals as goal

pub overflow_mul-result : goal.overflow_mul-result
overflow_mul-result c = omega (arith, few_values c.args.phases c.line_history_values.result c.requires.phases c.line_history_values.ensures.few)

pub returns-in-Some-clause-few : goal.returns-in-Some-clause-few
returns-in-Some-clause-few c = few_values c.args.phases c.line_history_values.result c.requires.phases c.line_history_values.ensures.few
