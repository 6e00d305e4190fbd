use Rattle.std.proofs.Common.{rules}
use Rattle.emtp_pseudo.proofs.segment.conductance.Goals as goal

pub returns-else-reactor : goal.returns-else-reactor
returns-else-reactor c = search rules
