use Rattle.std.proofs.Common.{rules}
use Rattle.emtp_line.proofs.waves.Waves.at_rest.Goals as goal

pub returns : goal.returns
returns c = search rules
