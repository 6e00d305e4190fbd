use Rattle.std.proofs.Common.{rules}
use Rattle.emtp_taccards.proofs.tacs_source_card.period.Goals as goal

pub returns-clause-range : goal.returns-clause-range
returns-clause-range c = search rules
