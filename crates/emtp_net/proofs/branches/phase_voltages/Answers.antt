use Rattle.std.proofs.Common.{rules}
use Rattle.emtp_net.proofs.branches.phase_voltages.Goals as goal

pub returns : goal.returns
returns c = search rules
