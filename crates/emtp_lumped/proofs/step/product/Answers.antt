use Rattle.std.proofs.Common.{◌*◌, ◌^◌, ap, unsigned_abs, FitsSigned, arith, rules}
use mir.Syntax.{w64, w128}
use Rattle.std.proofs.lemmas.Int.{ints, to_z-of_z}
use Rattle.emtp_fix.proofs.Quotients.{near-product}
use Rattle.emtp_lumped.proofs.step.product.Goals as goal

pub returns-clause-bound : goal.returns-clause-bound
returns-clause-bound c =
    let a : FitsSigned w64 c.args.a = c.ranges.a in
    let a' : FitsSigned w128 c.args.a = search rules in
    let b : FitsSigned w128 c.args.b = c.ranges.b in
    let u : FitsSigned w128 c.args.unit = c.ranges.unit in
    let is = simp to_z-of_z at c.scaled.ensures.value in
    let small = near-product c.args.a c.args.b c.args.unit (10 ^ 17) (2 * 10 ^ 19) (10 ^ 6) (2 * 10 ^ 30) c.requires.a (omega (arith, c.requires.b)) (omega (arith, ints, c.requires.least)) (omega arith) in
    omega (arith, ints, ap unsigned_abs is, small)
