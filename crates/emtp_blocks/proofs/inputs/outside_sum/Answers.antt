use Rattle.std.proofs.Common.{◌≡◌, ◌∙◌, ◌+ℤ◌, false, to_z, of_z, arith}
use mir.Syntax.{w64}
use Rattle.std.proofs.lemmas.Int.{ints}
use Rattle.emtp_case.specs.declared.control.Input.{Input}
use Rattle.emtp_fix.proofs.Wide.{through_64}
use Rattle.emtp_blocks.specs.held.BlockRows.{place_in}
use Rattle.emtp_blocks.specs.System.{outside_by}
use Rattle.emtp_case.proofs.Sums.{total-more, one_more}
use Rattle.emtp_blocks.proofs.inputs.outside_sum.Goals as goal

pub loop-input-preserved : goal.loop-input-preserved
loop-input-preserved c =
    let d : Input = record { var = 0; minus = false } in
    let r : to_z w64 (of_z w64 c.outside-sum.result) ≡ c.outside-sum.result = through_64 _ c.outside-sum.ensures.small in
    let more = total-more (λ i. outside_by c.args.known.now i (place_in c.args.places.now i.var)) c.args.inputs.now c.loop-input.input-index d c.loop-input-test.true in
    let sum : to_z w64 (of_z w64 (to_z w64 c.loop-input.sum-bits +ℤ c.outside-sum.result)) ≡ to_z w64 c.loop-input.sum-bits +ℤ c.outside-sum.result = omega (arith, ints, c.loop-input.invariant.small, c.outside-sum.ensures.small, c.requires.few) in
    record {
      value = rw r (sum ∙ one_more _ _ _ _ _ c.loop-input.invariant.value c.outside-sum.ensures.value more);
      small = rw r (rw sum (omega (arith, ints, c.loop-input.invariant.small, c.outside-sum.ensures.small)));
    }
