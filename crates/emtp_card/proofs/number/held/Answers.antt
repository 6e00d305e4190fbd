use Rattle.std.proofs.Common.{rules}
use Rattle.emtp_card.proofs.number.held.Goals as goal

pub returns-then-value-from-clause-value : goal.returns-then-value-from-clause-value
returns-then-value-from-clause-value c = search rules

pub returns-then-from-value-clause-value : goal.returns-then-from-value-clause-value
returns-then-from-value-clause-value c = search rules

pub returns-else-from-value-clause-value : goal.returns-else-from-value-clause-value
returns-else-from-value-clause-value c = search rules

pub returns-in-Err-clause-value : goal.returns-in-Err-clause-value
returns-in-Err-clause-value c = search rules
