use Rattle.emtp_case.specs.Control.{quotient_of}
use Rattle.std.proofs.Common.{◌≡◌, ◌∙◌, ◌+◌, ◌^◌, to_z, of_z, arith}
use mir.Syntax.{w64, w128}
use Rattle.std.proofs.lemmas.Int.{ints, fits_signed_from_abs, to_z-of_z}
use Rattle.emtp_fix.proofs.Wide.{narrow_is}
use Rattle.emtp_case.proofs.Sums.{sum_below-more, sum_upto-below, sum_below_small}
use Rattle.emtp_walk.proofs.coefficients.numerator_sum.Goals as goal

pub overflow_add-sum : goal.overflow_add-sum
overflow_add-sum c =
    let f = quotient_of c.args.dt c.args.top.now c.args.divisor in
    let so_far = sum_below_small c.loop-power.power f (10 ^ 18) (λ k below. c.requires.small k (omega (arith, below))) in
    let here = c.requires.small c.loop-power.power (omega arith) in
    let dt : to_z w64 (of_z w64 c.args.dt) ≡ c.args.dt = to_z-of_z w64 c.args.dt c.ranges.dt in
    let d : to_z w128 (of_z w128 c.args.divisor) ≡ c.args.divisor = omega (arith, ints, c.requires.divisor) in
    let was = rw (dt, d) at c.loop-power.invariant in
    let is = rw (dt, d) at c.coefficient_quotient.ensures.value in
    let value = narrow_is c.coefficient_quotient.result (f c.loop-power.power) is (omega (arith, here)) in
    fits_signed_from_abs w64 _ (omega (arith, ints, so_far, here, was, value))

pub loop-power-preserved : goal.loop-power-preserved
loop-power-preserved c =
    let f = quotient_of c.args.dt c.args.top.now c.args.divisor in
    let so_far = sum_below_small c.loop-power.power f (10 ^ 18) (λ k below. c.requires.small k (omega (arith, below))) in
    let here = c.requires.small c.loop-power.power (omega arith) in
    let dt : to_z w64 (of_z w64 c.args.dt) ≡ c.args.dt = to_z-of_z w64 c.args.dt c.ranges.dt in
    let d : to_z w128 (of_z w128 c.args.divisor) ≡ c.args.divisor = omega (arith, ints, c.requires.divisor) in
    let was = rw (dt, d) at c.loop-power.invariant in
    let is = rw (dt, d) at c.coefficient_quotient.ensures.value in
    let value = narrow_is c.coefficient_quotient.result (f c.loop-power.power) is (omega (arith, here)) in
    rw (dt, d) (omega (arith, ints, so_far, here, was, value, sum_below-more c.loop-power.power f))

pub returns-clause-value : goal.returns-clause-value
returns-clause-value c =
    let f = quotient_of c.args.dt c.args.top.now c.args.divisor in
    let dt : to_z w64 (of_z w64 c.args.dt) ≡ c.args.dt = to_z-of_z w64 c.args.dt c.ranges.dt in
    let d : to_z w128 (of_z w128 c.args.divisor) ≡ c.args.divisor = omega (arith, ints, c.requires.divisor) in
    let last : c.loop-power.power ≡ c.args.order + 1 = omega arith in
    let is = rw (last, dt, d) at c.loop-power.invariant in
    is ∙ sum_upto-below c.args.order f

pub returns-clause-small : goal.returns-clause-small
returns-clause-small c =
    let f = quotient_of c.args.dt c.args.top.now c.args.divisor in
    let so_far = sum_below_small c.loop-power.power f (10 ^ 18) (λ k below. c.requires.small k (omega (arith, below))) in
    let dt : to_z w64 (of_z w64 c.args.dt) ≡ c.args.dt = to_z-of_z w64 c.args.dt c.ranges.dt in
    let d : to_z w128 (of_z w128 c.args.divisor) ≡ c.args.divisor = omega (arith, ints, c.requires.divisor) in
    let was = rw (dt, d) at c.loop-power.invariant in
    omega (arith, ints, so_far, was)
