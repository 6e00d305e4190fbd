use Rattle.std.proofs.Common.{◌≡◌, ◌∙◌, ap, ◌+ℤ◌, FitsSigned, arith, rules}
use mir.Syntax.{w64, w128}
use Rattle.std.proofs.lemmas.Int.{ints, to_z-of_z}
use Rattle.emtp_devices.specs.Device.{integral}
use Rattle.emtp_devices.proofs.output.integral.Goals as goal

pub returns : goal.returns
returns c =
    let dt : FitsSigned w64 c.args.dt = c.ranges.dt in
    let s : FitsSigned w64 c.args.s = c.ranges.s in
    let b : FitsSigned w64 c.args.before = c.ranges.before in
    let y : FitsSigned w64 c.args.y = c.ranges.y in
    let dt' : FitsSigned w128 c.args.dt = search rules in
    let s' : FitsSigned w128 c.args.s = search rules in
    let b' : FitsSigned w128 c.args.before = search rules in
    let y' : FitsSigned w128 c.args.y = search rules in
    let sb : FitsSigned w128 (c.args.s +ℤ c.args.before) = search rules in
    let is = simp to_z-of_z at c.scaled.ensures.value in
    let sum : c.args.y +ℤ c.scaled.result ≡ integral c.args.dt c.args.s c.args.before c.args.y = ap (λ z. c.args.y +ℤ z) is in
    omega (arith, ints, c.scaled.ensures.bound, c.requires.y) ∙ sum
