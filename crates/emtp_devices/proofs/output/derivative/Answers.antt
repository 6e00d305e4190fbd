use Rattle.std.proofs.Common.{◌∙◌, ◌-ℤ◌, FitsSigned, rules}
use mir.Syntax.{w64, w128}
use Rattle.std.proofs.lemmas.Int.{to_z-of_z}
use Rattle.emtp_devices.proofs.output.derivative.Goals as goal

pub returns : goal.returns
returns c =
    let dt : FitsSigned w64 c.args.dt = c.ranges.dt in
    let s : FitsSigned w64 c.args.s = c.ranges.s in
    let b : FitsSigned w64 c.args.before = c.ranges.before in
    let dt' : FitsSigned w128 c.args.dt = search rules in
    let s' : FitsSigned w128 c.args.s = search rules in
    let b' : FitsSigned w128 c.args.before = search rules in
    let apart : FitsSigned w128 (c.args.s -ℤ c.args.before) = search rules in
    let r : FitsSigned w128 c.scaled.result = search rules in
    let is = simp to_z-of_z at c.scaled.ensures.value in
    to_z-of_z w128 c.scaled.result r ∙ is
