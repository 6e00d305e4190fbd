use Rattle.std.proofs.Common.{rules}
use Rattle.emtp_rows.proofs.fill.amount_of.Goals as goal

pub returns-in-Turned-clause-value : goal.returns-in-Turned-clause-value
returns-in-Turned-clause-value c = search rules
