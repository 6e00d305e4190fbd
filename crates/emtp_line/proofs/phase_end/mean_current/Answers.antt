use Rattle.std.proofs.Common.{◌^◌, FitsSigned, arith, rules}
use mir.Syntax.{w128}
use Rattle.std.proofs.lemmas.Int.{ints, to_z-of_z}
use Rattle.emtp_line.specs.Phases.{of_phase}
use Rattle.emtp_line.proofs.phase_end.mean_current.Goals as goal

pub returns-clause-bound : goal.returns-clause-bound
returns-clause-bound c =
    let a : FitsSigned w128 (of_phase c.args.i.now 0) = search rules in
    let b : FitsSigned w128 (of_phase c.args.i.now 1) = search rules in
    let d : FitsSigned w128 (of_phase c.args.i.now 2) = search rules in
    let within = simp to_z-of_z at c.quotient.ensures.within in
    let small = within (10 ^ 25) (10 ^ 25) c.requires.first c.requires.second c.requires.third (omega arith) in
    omega (arith, ints, small)
