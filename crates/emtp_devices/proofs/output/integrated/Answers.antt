use Rattle.std.proofs.Common.{◌∙◌, ap, FitsSigned, rules}
use mir.Syntax.{w64, w128}
use Rattle.std.proofs.lemmas.Int.{to_z-of_z}
use Rattle.emtp_devices.specs.Device.{integral}
use Rattle.emtp_devices.proofs.output.integrated.Goals as goal

pub returns-then-active : goal.returns-then-active
returns-then-active c = λ inputs past.
    let b : FitsSigned w64 c.last_input.result = search rules in
    let y : FitsSigned w64 c.args.held.now.output = search rules in
    let dt : FitsSigned w64 c.args.dt = c.ranges.dt in
    let s : FitsSigned w64 c.args.s = c.ranges.s in
    let r : FitsSigned w128 c.integral.result = search rules in
    let is = simp to_z-of_z at c.integral.ensures in
    let before = c.last_input.ensures.value inputs past in
    rw (c.if-reset.false, c.if-active.true) (to_z-of_z w128 c.integral.result r ∙ is ∙ ap (λ b. integral c.args.dt c.args.s b c.args.held.now.output) before)
