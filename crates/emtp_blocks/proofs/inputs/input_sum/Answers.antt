use Rattle.std.proofs.Common.{◌≡◌, ◌∙◌, ◌+ℤ◌, false, to_z, of_z, arith}
use mir.Syntax.{w64}
use Rattle.std.proofs.lemmas.Int.{ints}
use Rattle.emtp_case.specs.declared.control.Input.{Input}
use Rattle.emtp_fix.proofs.Wide.{through_64}
use Rattle.emtp_blocks.specs.held.BlockRows.{place_in}
use Rattle.emtp_blocks.specs.System.{inside_by}
use Rattle.emtp_case.proofs.Sums.{total-more, one_more}
use Rattle.emtp_blocks.proofs.inputs.input_sum.Goals as goal

pub loop-input-preserved : goal.loop-input-preserved
loop-input-preserved c =
    let d : Input = record { var = 0; minus = false } in
    let x : to_z w64 (of_z w64 c.args.x) ≡ c.args.x = through_64 c.args.x c.requires.x in
    let r : to_z w64 (of_z w64 c.inside-sum.result) ≡ c.inside-sum.result = through_64 _ c.inside-sum.ensures.small in
    let more = total-more (λ i. inside_by c.args.values.now.known.now c.args.values.now.solved.now c.args.at c.args.x i (place_in c.args.places.now i.var)) c.args.inputs.now c.loop-input.input-index d c.loop-input-test.true in
    let before = rw x at c.loop-input.invariant.value in
    let here = rw x at c.inside-sum.ensures.value in
    let sum : to_z w64 (of_z w64 (to_z w64 c.loop-input.sum-bits +ℤ c.inside-sum.result)) ≡ to_z w64 c.loop-input.sum-bits +ℤ c.inside-sum.result = omega (arith, ints, c.loop-input.invariant.small, c.inside-sum.ensures.small, c.requires.few) in
    record {
      value = rw (r, x) (sum ∙ one_more _ _ _ _ _ before here more);
      small = rw r (rw sum (omega (arith, ints, c.loop-input.invariant.small, c.inside-sum.ensures.small)));
    }
