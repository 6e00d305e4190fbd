use Rattle.std.proofs.Common.{◌≡◌, ◌∙◌, ◌<◌, ◌-◌, ap, FitsSigned, to_z, of_z, length, drop, take_all, arith, rules, false}
use mir.Syntax.{w64}
use Rattle.std.proofs.lemmas.Int.{to_z-of_z}
use Rattle.std.proofs.lemmas.List.{length-drop}
use Rattle.std.specs.List.{fold}
use Rattle.emtp_case.specs.declared.control.Input.{Input}
use Rattle.emtp_devices.specs.Device.{brought, extreme_of_two}
use Rattle.emtp_devices.proofs.Equations.{extreme-is}
use Rattle.emtp_devices.proofs.inputs.extreme.Goals as goal

pub returns-else-is_empty : goal.returns-else-is_empty
returns-else-is_empty c =
    let d : Input = record { var = 0; minus = false } in
    let a : FitsSigned w64 c.args.a = c.ranges.a in
    let b : FitsSigned w64 c.brought.result = search rules in
    let r : FitsSigned w64 c.extreme_from.result = search rules in
    let a' : to_z w64 (of_z w64 c.args.a) ≡ c.args.a = to_z-of_z w64 c.args.a a in
    let b' : to_z w64 (of_z w64 c.brought.result) ≡ c.brought.result = to_z-of_z w64 c.brought.result b in
    let is = rw (a', b') at c.extreme_from.ensures in
    let some : 0 < length c.args.inputs.now = search rules in
    to_z-of_z w64 c.extreme_from.result r ∙ is
    ∙ ap (λ xs. fold (λ z i. extreme_of_two c.args.a z (brought c.args.values.now i)) c.brought.result xs) (take_all (length c.args.inputs.now - 1) (drop 1 c.args.inputs.now) (omega (arith, length-drop 1 c.args.inputs.now)))
    ∙ ap (λ z. fold (λ z i. extreme_of_two c.args.a z (brought c.args.values.now i)) z (drop 1 c.args.inputs.now)) c.brought.ensures.value
    ∙ extreme-is c.args.a c.args.values.now c.args.inputs.now d some
