use Rattle.std.proofs.Common.{◌*◌, ◌^◌, FitsSigned, arith, rules}
use mir.Syntax.{w128}
use Rattle.std.proofs.lemmas.Int.{ints, to_z-of_z}
use Rattle.emtp_acting.proofs.fictitious.nano_ohms.Goals as goal

pub returns-clause-bound : goal.returns-clause-bound
returns-clause-bound c =
    let p : FitsSigned w128 c.args.conducted = c.ranges.conducted in
    let g : FitsSigned w128 c.args.conductance = c.ranges.conductance in
    let r : FitsSigned w128 c.scaled.result = search rules in
    let within = simp to_z-of_z at c.scaled.ensures.within in
    let small = within (5 * 10 ^ 14) (omega (arith, ints, c.requires.conducted, c.requires.conductance.least)) in
    rw (to_z-of_z w128 c.scaled.result r) small
