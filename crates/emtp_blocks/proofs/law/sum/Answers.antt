use Rattle.std.proofs.Common.{◌≡◌, ◌∙◌, ◌+◌, ◌^◌, arith}
use mir.Syntax.{w64}
use Rattle.std.proofs.lemmas.Int.{ints, fits_signed_from_abs}
use Rattle.emtp_elim.specs.Matrix.{item}
use Rattle.emtp_case.proofs.Sums.{sum_below-more, sum_upto-below, sum_below_small}
use Rattle.emtp_blocks.proofs.law.sum.Goals as goal

pub overflow_add-sum : goal.overflow_add-sum
overflow_add-sum c =
    let q = c.args.quotients.now in
    let so_far = sum_below_small c.loop-j.j (item q) (10 ^ 18) (λ k below. c.requires.small k) in
    let here = c.requires.small c.loop-j.j in
    fits_signed_from_abs w64 _ (omega (arith, ints, so_far, here, c.loop-j.invariant))

pub loop-j-preserved : goal.loop-j-preserved
loop-j-preserved c =
    let q = c.args.quotients.now in
    let so_far = sum_below_small c.loop-j.j (item q) (10 ^ 18) (λ k below. c.requires.small k) in
    let here = c.requires.small c.loop-j.j in
    omega (arith, ints, so_far, here, c.loop-j.invariant, sum_below-more c.loop-j.j (item q))

pub returns-clause-value : goal.returns-clause-value
returns-clause-value c =
    let q = c.args.quotients.now in
    let last : c.loop-j.j ≡ c.args.order + 1 = omega arith in
    let is = rw last at c.loop-j.invariant in
    is ∙ sum_upto-below c.args.order (item q)

pub returns-clause-small : goal.returns-clause-small
returns-clause-small c =
    let q = c.args.quotients.now in
    let so_far = sum_below_small c.loop-j.j (item q) (10 ^ 18) (λ k below. c.requires.small k) in
    omega (arith, ints, so_far, c.loop-j.invariant)
