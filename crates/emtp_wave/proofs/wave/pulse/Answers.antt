use Rattle.std.proofs.Common.{rules}
use Rattle.emtp_wave.proofs.wave.pulse.Goals as goal

pub returns-then-into_period-width-clause-value : goal.returns-then-into_period-width-clause-value
returns-then-into_period-width-clause-value c = search rules
