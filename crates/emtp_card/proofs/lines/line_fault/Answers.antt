use Rattle.std.proofs.lemmas.Grind.{common_steps}
use Rattle.std.proofs.Common.{arith, rules}
use Rattle.emtp_card.proofs.lines.line_fault.Goals as goal

pub returns-in-Some-clause-value : goal.returns-in-Some-clause-value
unfolding Rattle.emtp_card.specs.Lines.fault_of_line
returns-in-Some-clause-value c = search (rules, arith, common_steps)

pub returns-in-Some-clause-first : goal.returns-in-Some-clause-first
returns-in-Some-clause-first c = search (rules, arith, common_steps)
