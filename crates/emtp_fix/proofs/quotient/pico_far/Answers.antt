use Rattle.std.proofs.Common.{rules}
use Rattle.emtp_fix.proofs.quotient.pico_far.Goals as goal

pub returns : goal.returns
returns c = search rules
