use Rattle.std.proofs.Common.{◌≡◌, ◌∙◌, ap, ◌+ℤ◌, FitsSigned, arith, rules, true}
use mir.Syntax.{w64, w128}
use Rattle.std.proofs.lemmas.Int.{ints, to_z-of_z}
use Rattle.emtp_pseudo.specs.Step.{flux_of}
use Rattle.emtp_pseudo.proofs.step.flux.Goals as goal

pub returns-then-reactor : goal.returns-then-reactor
returns-then-reactor c =
    let v : FitsSigned w128 c.args.v = c.ranges.v in
    let dt : FitsSigned w64 c.args.dt = c.ranges.dt in
    let f : FitsSigned w64 c.args.old.now.state.flux = search rules in
    let o : FitsSigned w128 c.args.old.now.voltage = search rules in
    let is = simp to_z-of_z at c.trapezoid.ensures.value in
    let step : c.args.old.now.state.flux +ℤ c.trapezoid.result ≡ flux_of true c.args.dt c.args.old.now c.args.v = ap (λ z. c.args.old.now.state.flux +ℤ z) is in
    rw c.if-reactor.true (omega (arith, ints, c.trapezoid.ensures.bound, c.requires.old.flux) ∙ step)
