use Rattle.std.proofs.Common.{arith}
use Rattle.std.proofs.lemmas.Int.{ints}
use Rattle.emtp_fix.proofs.Nearest.{near-below_zero, near-from_zero}
use Rattle.emtp_comtrade.proofs.data.with_sign_of.Goals as goal

pub returns-then-value-lt0 : goal.returns-then-value-lt0
returns-then-value-lt0 c = λ d is. omega (arith, ints, near-below_zero c.args.value d (omega (arith, ints)))

pub returns-else-value-lt0 : goal.returns-else-value-lt0
returns-else-value-lt0 c = λ d is. omega (arith, ints, near-from_zero c.args.value d (omega (arith, ints)))
