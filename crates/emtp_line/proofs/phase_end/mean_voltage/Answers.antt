use Rattle.std.proofs.Common.{◌^◌, FitsSigned, arith, rules}
use mir.Syntax.{w64, w128}
use Rattle.std.proofs.lemmas.Int.{ints, to_z-of_z}
use Rattle.emtp_line.specs.Phases.{of_phase}
use Rattle.emtp_line.proofs.phase_end.mean_voltage.Goals as goal

pub returns-clause-bound : goal.returns-clause-bound
returns-clause-bound c =
    let a : FitsSigned w64 (of_phase c.args.v.now 0) = search rules in
    let b : FitsSigned w64 (of_phase c.args.v.now 1) = search rules in
    let d : FitsSigned w64 (of_phase c.args.v.now 2) = search rules in
    let a' : FitsSigned w128 (of_phase c.args.v.now 0) = search rules in
    let b' : FitsSigned w128 (of_phase c.args.v.now 1) = search rules in
    let d' : FitsSigned w128 (of_phase c.args.v.now 2) = search rules in
    let within = simp to_z-of_z at c.quotient.ensures.within in
    let small = within (2 ^ 63) (10 ^ 19) (omega (arith, ints)) (omega (arith, ints)) (omega (arith, ints)) (omega arith) in
    omega (arith, ints, small)
