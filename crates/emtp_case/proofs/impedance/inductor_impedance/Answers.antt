use Rattle.std.proofs.Common.{◌∙◌, ◌*◌, ◌^◌, ◌*ℤ◌, pos, FitsSigned, rules}
use mir.Syntax.{w64, w128}
use Rattle.std.proofs.lemmas.Int.{to_z-of_z}
use Rattle.emtp_case.proofs.impedance.inductor_impedance.Goals as goal

pub returns-clause-value : goal.returns-clause-value
returns-clause-value c =
    let dt : FitsSigned w64 c.args.dt = c.ranges.dt in
    let l : FitsSigned w64 c.args.l = c.ranges.l in
    let dt' : FitsSigned w128 c.args.dt = search rules in
    let l' : FitsSigned w128 c.args.l = search rules in
    let product : FitsSigned w128 (pos (2 * 10 ^ 9) *ℤ c.args.l) = search rules in
    let r : FitsSigned w128 c.near.result = search rules in
    let is = simp to_z-of_z at c.near.ensures.value in
    to_z-of_z w128 c.near.result r ∙ is
