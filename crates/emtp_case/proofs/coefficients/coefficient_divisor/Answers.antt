use Rattle.std.proofs.Common.{◌≡◌, ◌∙◌, ◌+◌, ◌*◌, ◌^◌, pos, to_z, of_z, arith}
use mir.Syntax.{w64}
use Rattle.std.specs.Prelude.{slice_index_or}
use Rattle.std.proofs.lemmas.Int.{ints, to_z-of_z}
use Rattle.emtp_case.specs.Control.{power_of}
use Rattle.emtp_fix.proofs.Wide.{fits}
use Rattle.emtp_case.proofs.Sums.{sum_below-more, sum_upto-below, sum_below_small}
use Rattle.emtp_case.proofs.coefficients.coefficient_divisor.Goals as goal

pub overflow_add-sum : goal.overflow_add-sum
overflow_add-sum c =
    let f = power_of c.args.dt c.args.bottom.now in
    let so_far = sum_below_small c.loop-power.power f (8 * 10 ^ 25) (λ k below. c.requires.way k (omega (arith, below)) k (omega arith)) in
    let dt : to_z w64 (of_z w64 c.args.dt) ≡ c.args.dt = to_z-of_z w64 c.args.dt c.ranges.dt in
    let was = rw dt at c.loop-power.invariant in
    fits _ (omega (arith, ints, so_far, c.bilinear-sum.ensures.small, was))

pub loop-power-preserved : goal.loop-power-preserved
loop-power-preserved c =
    let f = power_of c.args.dt c.args.bottom.now in
    let so_far = sum_below_small c.loop-power.power f (8 * 10 ^ 25) (λ k below. c.requires.way k (omega (arith, below)) k (omega arith)) in
    let dt : to_z w64 (of_z w64 c.args.dt) ≡ c.args.dt = to_z-of_z w64 c.args.dt c.ranges.dt in
    let x : to_z w64 (of_z w64 (slice_index_or c.args.bottom.now c.loop-power.power (pos 0))) ≡ slice_index_or c.args.bottom.now c.loop-power.power (pos 0) = to_z-of_z w64 _ (search arith) in
    let was = rw dt at c.loop-power.invariant in
    let is = rw (dt, x) at c.bilinear-sum.ensures.value in
    rw dt (omega (arith, ints, so_far, c.bilinear-sum.ensures.small, was, is, sum_below-more c.loop-power.power f))

pub returns-clause-value : goal.returns-clause-value
returns-clause-value c =
    let f = power_of c.args.dt c.args.bottom.now in
    let dt : to_z w64 (of_z w64 c.args.dt) ≡ c.args.dt = to_z-of_z w64 c.args.dt c.ranges.dt in
    let last : c.loop-power.power ≡ c.args.order + 1 = omega arith in
    let is = rw (last, dt) at c.loop-power.invariant in
    is ∙ sum_upto-below c.args.order f

pub returns-clause-small : goal.returns-clause-small
returns-clause-small c =
    let f = power_of c.args.dt c.args.bottom.now in
    let so_far = sum_below_small c.loop-power.power f (8 * 10 ^ 25) (λ k below. c.requires.way k (omega (arith, below)) k (omega arith)) in
    let dt : to_z w64 (of_z w64 c.args.dt) ≡ c.args.dt = to_z-of_z w64 c.args.dt c.ranges.dt in
    let was = rw dt at c.loop-power.invariant in
    omega (arith, ints, so_far, was)
