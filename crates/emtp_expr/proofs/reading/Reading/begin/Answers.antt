use Rattle.std.proofs.Common.{rules}
use Rattle.emtp_expr.proofs.reading.Reading.begin.Goals as goal

pub returns-then-not-wants_value : goal.returns-then-not-wants_value
returns-then-not-wants_value c = search rules
