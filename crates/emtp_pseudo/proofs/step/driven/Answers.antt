use Rattle.std.proofs.Common.{ap, unsigned_abs, ◌^◌, FitsSigned, arith, rules}
use mir.Syntax.{w64, w128}
use Rattle.std.proofs.lemmas.Int.{ints, to_z-of_z}
use Rattle.emtp_fix.specs.declared.limit.TheConstants.{PICO}
use Rattle.emtp_fix.proofs.Quotients.{near-product}
use Rattle.emtp_pseudo.proofs.step.driven.Goals as goal

pub returns-clause-bound : goal.returns-clause-bound
returns-clause-bound c =
    let v : FitsSigned w128 c.args.v = c.ranges.v in
    let g : FitsSigned w64 c.args.g = c.ranges.g in
    let g' : FitsSigned w128 c.args.g = search rules in
    let is = simp to_z-of_z at c.scaled.ensures.value in
    let small = near-product c.args.g c.args.v PICO (10 ^ 17) (2 ^ 64) (10 ^ 12) (10 ^ 25) (omega (arith, ints, c.requires.g.least, c.requires.g.most)) c.requires.v (omega arith) (omega arith) in
    omega (arith, ints, ap unsigned_abs is, small)
