use Rattle.std.proofs.Common.{rules}
use Rattle.emtp_taccards.proofs.block_card.gain.Goals as goal

pub returns-in-Ok-eq0-clause-value : goal.returns-in-Ok-eq0-clause-value
returns-in-Ok-eq0-clause-value c = search rules

pub returns-in-Ok-clause-value : goal.returns-in-Ok-clause-value
returns-in-Ok-clause-value c = search rules

pub returns-in-Err-clause-value : goal.returns-in-Err-clause-value
returns-in-Err-clause-value c = search rules

pub returns-in-Ok-eq0-clause-some : goal.returns-in-Ok-eq0-clause-some
returns-in-Ok-eq0-clause-some c = search rules
