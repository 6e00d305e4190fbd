use Rattle.std.proofs.Common.{arith}
use Rattle.std.proofs.lemmas.Int.{ints}
use Rattle.emtp_lumped.proofs.companion.impedance.Goals as goal

pub returns : goal.returns
returns c = omega (arith, ints)
