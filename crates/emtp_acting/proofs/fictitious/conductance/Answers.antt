use Rattle.std.proofs.Common.{ap, unsigned_abs, FitsSigned, arith}
use mir.Syntax.{w128}
use Rattle.std.proofs.lemmas.Int.{ints, to_z-of_z}
use Rattle.emtp_case.proofs.Impedances.{conductance_range}
use Rattle.emtp_acting.proofs.fictitious.conductance.Goals as goal

pub returns-clause-bound : goal.returns-clause-bound
returns-clause-bound c =
    let z : FitsSigned w128 c.args.z = c.ranges.z in
    let is = simp to_z-of_z at c.near.ensures.value in
    let range = conductance_range c.args.z c.requires in
    omega (arith, ints, ap unsigned_abs is, range.least, range.most)

pub returns-clause-value : goal.returns-clause-value
returns-clause-value c =
    let z : FitsSigned w128 c.args.z = c.ranges.z in
    let is = simp to_z-of_z at c.near.ensures.value in
    let range = conductance_range c.args.z c.requires in
    omega (arith, ints, is, range.least, range.most)
