use Rattle.emtp_line.proofs.Physics.{no_zero_wave}
use Rattle.emtp_line.proofs.laws.balanced_end.Goals as goal

pub returns : goal.returns
returns c = no_zero_wave
