use Rattle.std.proofs.Common.{arith}
use Rattle.std.proofs.lemmas.Int.{ints}
use Rattle.emtp_fix.proofs.Nearest.{near-below_zero, near-from_zero}
use Rattle.emtp_fix.proofs.rounding.narrow_with_sign_of.Goals as goal

pub returns-then-a-lt0-clause-value : goal.returns-then-a-lt0-clause-value
returns-then-a-lt0-clause-value c = λ d is. omega (arith, ints, near-below_zero c.args.a d (omega (arith, ints)))

pub returns-else-a-lt0-clause-value : goal.returns-else-a-lt0-clause-value
returns-else-a-lt0-clause-value c = λ d is. omega (arith, ints, near-from_zero c.args.a d (omega (arith, ints)))
