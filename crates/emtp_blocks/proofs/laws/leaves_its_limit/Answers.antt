use Rattle.emtp_blocks.proofs.Limiters.{leaves}
use Rattle.emtp_blocks.proofs.laws.leaves_its_limit.Goals as goal

pub returns : goal.returns
returns c = leaves
