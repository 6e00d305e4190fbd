use Rattle.std.proofs.Common.{ap, unsigned_abs, ◌≤◌, FitsSigned, arith}
use mir.Syntax.{w128}
use Rattle.std.proofs.lemmas.Int.{ints, to_z-of_z}
use Rattle.emtp_fix.specs.declared.limit.TheConstants.{LARGEST_ENTRY}
use Rattle.emtp_fix.proofs.Quotients.{conductance-small}
use Rattle.emtp_fix.proofs.Wide.{through}
use Rattle.emtp_pseudo.proofs.segment.reciprocal.Goals as goal

pub returns-clause-bound : goal.returns-clause-bound
returns-clause-bound c =
    let r : FitsSigned w128 c.args.r = c.ranges.r in
    let is = simp to_z-of_z at c.near.ensures.value in
    let small : unsigned_abs c.near.result ≤ LARGEST_ENTRY = omega (arith, ap unsigned_abs is, conductance-small c.args.r (omega (arith, ints, c.requires.least))) in
    rw (through c.near.result (omega (arith, small))) small
