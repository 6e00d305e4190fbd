use Rattle.std.proofs.Common.{◌*ℤ◌, FitsSigned, rules}
use mir.Syntax.{w64, w128}
use Rattle.std.proofs.lemmas.Int.{to_z-of_z}
use Rattle.emtp_case.proofs.Impedances.{product_range}
use Rattle.emtp_case.proofs.impedance.product.Goals as goal

pub returns-clause-range : goal.returns-clause-range
returns-clause-range c =
    let a : FitsSigned w64 c.args.a = c.ranges.a in
    let b : FitsSigned w64 c.args.b = c.ranges.b in
    let a' : FitsSigned w128 c.args.a = search rules in
    let b' : FitsSigned w128 c.args.b = search rules in
    let whole : FitsSigned w128 (c.args.a *ℤ c.args.b) = search rules in
    simp to_z-of_z (product_range c.args.a c.args.b c.requires.a c.requires.b)
