use Rattle.std.proofs.Common.{arith}
use Rattle.std.proofs.lemmas.Int.{ints}
use Rattle.emtp_fix.proofs.Lifted.{micro_above, micro_below}
use Rattle.emtp_fix.proofs.overflowing.lifted_micro.Goals.{then-x-lt0, else-x-lt0}
use Rattle.emtp_fix.proofs.overflowing.lifted_micro.Goals as goal

pub returns : goal.returns
returns c = λ small. elim c.if-x-lt0.branch [
  | then-x-lt0 w ↦ micro_below c.args.x c.cast_unsigned.result (omega (arith, ints, w.if-x-lt0.true)) (omega (arith, ints, c.cast_unsigned.ensures, w.below-is, small))
  | else-x-lt0 w ↦ micro_above c.args.x c.cast_unsigned.result (omega (arith, ints, w.if-x-lt0.false)) (omega (arith, ints, c.cast_unsigned.ensures, w.below-is, small))
]
