use Rattle.std.proofs.Common.{◌∙◌, ap, sym, take, FitsSigned, ℤ, rules, false}
use mir.Syntax.{w64}
use Rattle.std.proofs.lemmas.Int.{to_z-of_z}
use Rattle.std.proofs.lemmas.List.{take_all}
use Rattle.std.proofs.lemmas.List.Sums.{fold_more}
use Rattle.std.specs.List.{fold}
use Rattle.emtp_case.specs.declared.control.Input.{Input}
use Rattle.emtp_devices.specs.Device.{brought, extreme_of_two}
use Rattle.emtp_devices.proofs.inputs.extreme_from.Goals as goal

pub loop-input-preserved : goal.loop-input-preserved
loop-input-preserved c =
    let d : Input = record { var = 0; minus = false } in
    let a : FitsSigned w64 c.args.a = c.ranges.a in
    let f : FitsSigned w64 c.args.first = c.ranges.first in
    let b : FitsSigned w64 c.brought.result = search rules in
    let r : FitsSigned w64 c.extreme_of_two-found.result = search rules in
    let before = simp to_z-of_z at c.loop-input.invariant in
    let is = simp to_z-of_z at c.extreme_of_two-found.ensures in
    let more = fold_more (λ (z : ℤ) (i : Input). extreme_of_two c.args.a z (brought c.args.values.now i)) c.args.first c.args.inputs.now c.loop-input.input-index d c.loop-input-test.true in
    simp to_z-of_z (is ∙ ap (λ z. extreme_of_two c.args.a z c.brought.result) before ∙ ap (λ z. extreme_of_two c.args.a (fold (λ (z : ℤ) (i : Input). extreme_of_two c.args.a z (brought c.args.values.now i)) c.args.first (take c.loop-input.input-index c.args.inputs.now)) z) c.brought.ensures.value ∙ sym more)

pub returns : goal.returns
returns c =
    let a : FitsSigned w64 c.args.a = c.ranges.a in
    let f : FitsSigned w64 c.args.first = c.ranges.first in
    let is = simp to_z-of_z at c.loop-input.invariant in
    is ∙ ap (fold (λ (z : ℤ) (i : Input). extreme_of_two c.args.a z (brought c.args.values.now i)) c.args.first) (take_all c.loop-input.input-index c.args.inputs.now c.loop-input-test.false)
