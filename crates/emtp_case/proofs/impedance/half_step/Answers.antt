use Rattle.std.proofs.Common.{◌∙◌, ◌^◌, ◌*ℤ◌, pos, FitsSigned, rules}
use mir.Syntax.{w64, w128}
use Rattle.std.proofs.lemmas.Int.{to_z-of_z}
use Rattle.emtp_case.proofs.impedance.half_step.Goals as goal

pub returns-clause-value : goal.returns-clause-value
returns-clause-value c =
    let dt : FitsSigned w64 c.args.dt = c.ranges.dt in
    let cap : FitsSigned w64 c.args.c = c.ranges.c in
    let dt' : FitsSigned w128 c.args.dt = search rules in
    let cap' : FitsSigned w128 c.args.c = search rules in
    let product : FitsSigned w128 (c.args.dt *ℤ pos (10 ^ 9)) = search rules in
    let twice : FitsSigned w128 (pos 2 *ℤ c.args.c) = search rules in
    let r : FitsSigned w128 c.near.result = search rules in
    let is = simp to_z-of_z at c.near.ensures.value in
    to_z-of_z w128 c.near.result r ∙ is
