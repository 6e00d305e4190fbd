use Rattle.std.proofs.Common.{rules}
use Rattle.emtp_comtrade.proofs.multiplier.multiplier_in.Goals as goal

pub returns-then-greatest-unit-clause-value : goal.returns-then-greatest-unit-clause-value
returns-then-greatest-unit-clause-value c = search rules
