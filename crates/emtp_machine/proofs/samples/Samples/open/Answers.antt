use Rattle.std.proofs.Common.{rules}
use Rattle.emtp_machine.proofs.samples.Samples.open.Goals as goal

pub invariant_of-result : goal.invariant_of-result
invariant_of-result c = search rules
