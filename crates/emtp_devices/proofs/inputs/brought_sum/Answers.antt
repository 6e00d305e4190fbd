use Rattle.emtp_fix.specs.declared.limit.TheConstants.{LARGEST_VALUE}
use Rattle.std.proofs.Common.{◌≡◌, ◌∙◌, ◌+◌, ◌*◌, ◌≤◌, ◌+ℤ◌, ℤ, ap, arith, of_z, pos, sym, take, to_z, unsigned_abs}
use mir.Syntax.{w64}
use Rattle.std.proofs.lemmas.Int.{fits_signed_from_abs, to_z-of_z}
use Rattle.std.proofs.lemmas.List.Sums.{fold_more}
use Rattle.emtp_case.specs.declared.control.Input.{Input}
use Rattle.emtp_fix.proofs.Wide.{abs-add-le, through_64}
use Rattle.emtp_devices.specs.Device.{brought, brought_sum}
use Rattle.emtp_devices.proofs.inputs.brought_sum.Goals as goal

pub loop-input-preserved : goal.loop-input-preserved
loop-input-preserved c =
    let values = c.args.values.now in
    let before = to_z w64 c.loop-input.sum-bits in
    let read : to_z w64 (of_z w64 c.brought-sum.result) ≡ c.brought-sum.result = through_64 c.brought-sum.result (omega (arith, c.brought-sum.ensures.small)) in
    let bound : unsigned_abs (before +ℤ c.brought-sum.result) ≤ (c.loop-input.input-index + 1) * LARGEST_VALUE
    = omega (arith, abs-add-le before c.brought-sum.result, c.loop-input.invariant.small, c.brought-sum.ensures.small) in
    let kept : to_z w64 (of_z w64 (before +ℤ c.brought-sum.result)) ≡ before +ℤ c.brought-sum.result
    = to_z-of_z w64 (before +ℤ c.brought-sum.result) (fits_signed_from_abs w64 (before +ℤ c.brought-sum.result) (omega (arith, bound, c.loop-input-test.true, c.requires.few))) in
    rw read (record {
      value = kept ∙ ap (λ x. x +ℤ c.brought-sum.result) c.loop-input.invariant.value ∙ ap (λ x. brought_sum values (take c.loop-input.input-index c.args.inputs.now) +ℤ x) c.brought-sum.ensures.value
          ∙ sym (fold_more (λ (sum : ℤ) (i : Input). sum +ℤ brought values i) (pos 0) c.args.inputs.now c.loop-input.input-index _ c.loop-input-test.true);
      small = omega (arith, ap unsigned_abs kept, bound);
    })
