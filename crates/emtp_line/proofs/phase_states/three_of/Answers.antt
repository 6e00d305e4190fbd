use Rattle.std.proofs.Common.{rules}
use Rattle.emtp_line.proofs.phase_states.three_of.Goals as goal

pub returns-in_default-second-clause-value : goal.returns-in_default-second-clause-value
returns-in_default-second-clause-value c = search rules
