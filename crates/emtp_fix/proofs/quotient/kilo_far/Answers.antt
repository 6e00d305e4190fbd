use Rattle.std.proofs.Common.{rules}
use Rattle.emtp_fix.proofs.quotient.kilo_far.Goals as goal

pub returns : goal.returns
returns c = search rules
