use Rattle.std.proofs.Common.{ap, ◌*◌, ◌^◌, unsigned_abs, FitsSigned, arith, rules}
use mir.Syntax.{w64, w128}
use Rattle.std.proofs.lemmas.Int.{ints, to_z-of_z}
use Rattle.emtp_fix.proofs.Quotients.{near-product}
use Rattle.emtp_blocks.proofs.scaling.product.Goals as goal

pub returns-clause-bound : goal.returns-clause-bound
returns-clause-bound c =
    let a : FitsSigned w64 c.args.a = c.ranges.a in
    let b : FitsSigned w64 c.args.b = c.ranges.b in
    let d : FitsSigned w128 c.args.unit = c.ranges.unit in
    let a' : FitsSigned w128 c.args.a = search rules in
    let b' : FitsSigned w128 c.args.b = search rules in
    let is = simp to_z-of_z at c.scaled.ensures.value in
    let small = near-product c.args.a c.args.b c.args.unit (8 * 10 ^ 18) (8 * 10 ^ 18) 1000 (10 ^ 35) c.requires.a c.requires.b (omega (arith, ints, c.requires.unit.least)) (omega arith) in
    omega (arith, ints, ap unsigned_abs is, small)
