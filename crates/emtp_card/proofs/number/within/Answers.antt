use Rattle.std.proofs.Common.{rules}
use Rattle.emtp_card.proofs.number.within.Goals as goal

pub returns-then-from-value-clause-value : goal.returns-then-from-value-clause-value
returns-then-from-value-clause-value c = search rules

pub returns-else-from-value-clause-value : goal.returns-else-from-value-clause-value
returns-else-from-value-clause-value c = search rules

pub returns-in-Err-clause-value : goal.returns-in-Err-clause-value
returns-in-Err-clause-value c = search rules
