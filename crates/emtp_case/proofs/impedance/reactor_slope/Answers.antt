use Rattle.std.proofs.Common.{◌∙◌, ◌*ℤ◌, ap, pos, FitsSigned, rules}
use mir.Syntax.{w64, w128}
use Rattle.std.proofs.lemmas.Int.{to_z-of_z}
use Rattle.emtp_fix.specs.Rounding.{near}
use Rattle.emtp_case.proofs.impedance.reactor_slope.Goals as goal

pub returns : goal.returns
returns c =
    let dt : FitsSigned w64 c.args.dt = c.ranges.dt in
    let current : FitsSigned w64 c.args.current = c.ranges.current in
    let flux : FitsSigned w64 c.args.flux = c.ranges.flux in
    let flux' : FitsSigned w128 c.args.flux = search rules in
    let value = simp to_z-of_z at c.product.ensures.value in
    let product : FitsSigned w128 c.product.result = search rules in
    let thousand : FitsSigned w128 (c.product.result *ℤ pos 1000) = search rules in
    let twice : FitsSigned w128 (pos 2 *ℤ c.args.flux) = search rules in
    let r : FitsSigned w128 c.near.result = search rules in
    let is = simp to_z-of_z at c.near.ensures.value in
    to_z-of_z w128 c.near.result r ∙ is ∙ ap (λ p. near (p *ℤ pos 1000) (pos 2 *ℤ c.args.flux)) value
