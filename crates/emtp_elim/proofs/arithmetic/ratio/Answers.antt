use Rattle.std.proofs.Common.{rules}
use Rattle.emtp_elim.proofs.arithmetic.ratio.Goals as goal

pub returns : goal.returns
returns c = search rules
