use Rattle.std.proofs.Common.{◌∙◌, ◌-ℤ◌, ap, sym, FitsSigned, rules}
use mir.Syntax.{w64, w128}
use Rattle.std.proofs.lemmas.Int.{to_z-of_z}
use Rattle.emtp_case.specs.Branch.{slope_of}
use Rattle.emtp_case.proofs.impedance.slope.Goals as goal

pub returns-then-reactor : goal.returns-then-reactor
returns-then-reactor c =
    let dt : FitsSigned w64 c.args.dt = c.ranges.dt in
    let a : FitsSigned w64 c.args.a.current = search rules in
    let b : FitsSigned w64 c.args.b.current = search rules in
    let low : FitsSigned w64 c.args.a.other = search rules in
    let high : FitsSigned w64 c.args.b.other = search rules in
    let current : FitsSigned w64 (c.args.b.current -ℤ c.args.a.current) = search rules in
    let other : FitsSigned w64 (c.args.b.other -ℤ c.args.a.other) = search rules in
    let r : FitsSigned w128 c.reactor_slope.result = search rules in
    let is = simp to_z-of_z at c.reactor_slope.ensures in
    to_z-of_z w128 c.reactor_slope.result r ∙ is ∙ ap (λ reactor. slope_of reactor c.args.dt c.args.a c.args.b) (sym c.if-reactor.true)

pub returns-else-reactor : goal.returns-else-reactor
returns-else-reactor c =
    let a : FitsSigned w64 c.args.a.current = search rules in
    let b : FitsSigned w64 c.args.b.current = search rules in
    let low : FitsSigned w64 c.args.a.other = search rules in
    let high : FitsSigned w64 c.args.b.other = search rules in
    let current : FitsSigned w64 (c.args.b.current -ℤ c.args.a.current) = search rules in
    let other : FitsSigned w64 (c.args.b.other -ℤ c.args.a.other) = search rules in
    let r : FitsSigned w128 c.resistor_slope.result = search rules in
    let is = simp to_z-of_z at c.resistor_slope.ensures in
    to_z-of_z w128 c.resistor_slope.result r ∙ is ∙ ap (λ reactor. slope_of reactor c.args.dt c.args.a c.args.b) (sym c.if-reactor.false)
