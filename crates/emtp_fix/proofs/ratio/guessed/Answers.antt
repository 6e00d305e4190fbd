use Rattle.std.proofs.Common.{inl, inr, pos, refl, arith}
use Rattle.std.proofs.lemmas.Int.{ints}
use Rattle.emtp_fix.proofs.Guessed.{near_is}
use Rattle.emtp_fix.proofs.ratio.guessed.Goals.{then-e-lt0, else-e-lt0}
use Rattle.emtp_fix.proofs.ratio.guessed.Goals as goal

pub one_more_signed-requires-clause-low : goal.one_more_signed-requires-clause-low
one_more_signed-requires-clause-low c = elim c.if-e-lt0.branch [
  | then-e-lt0 w ↦ omega (arith, ints, w.below-is, c.rounded_down.ensures.low, c.rounded_down.ensures.high)
  | else-e-lt0 w ↦ omega (arith, ints, w.below-is, c.rounded_down.ensures.low, c.rounded_down.ensures.high)
]

pub one_more_signed-requires-clause-high : goal.one_more_signed-requires-clause-high
one_more_signed-requires-clause-high c = elim c.if-e-lt0.branch [
  | then-e-lt0 w ↦ omega (arith, ints, w.below-is, c.rounded_down.ensures.low, c.rounded_down.ensures.high)
  | else-e-lt0 w ↦ omega (arith, ints, w.below-is, c.rounded_down.ensures.low, c.rounded_down.ensures.high)
]

pub returns-clause-value : goal.returns-clause-value
returns-clause-value c = elim c.if-e-lt0.branch [
  | then-e-lt0 w ↦ omega (
    arith,
    ints,
    near_is c.args.a c.args.e (pos 1) c.one_more_signed.result (inl (omega (arith, ints, w.if-e-lt0.true), refl)) c.requires.low c.requires.high
        (omega (arith, ints, w.below-is, c.one_more_signed.ensures.low)) (omega (arith, ints, w.below-is, c.one_more_signed.ensures.high)),
    c.one_more_signed.ensures.small,
  )
  | else-e-lt0 w ↦ omega (
    arith,
    ints,
    near_is c.args.a c.args.e (pos 0) c.one_more_signed.result (inr (omega (arith, ints, w.if-e-lt0.false), refl)) c.requires.low c.requires.high
        (omega (arith, ints, w.below-is, c.one_more_signed.ensures.low)) (omega (arith, ints, w.below-is, c.one_more_signed.ensures.high)),
    c.one_more_signed.ensures.small,
  )
]
