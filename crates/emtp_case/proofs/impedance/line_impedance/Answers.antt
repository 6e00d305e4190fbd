use Rattle.std.proofs.Common.{◌+ℤ◌, ap, FitsSigned, rules}
use mir.Syntax.{w64, w128}
use Rattle.std.proofs.lemmas.Int.{to_z-of_z}
use Rattle.emtp_case.proofs.impedance.line_impedance.Goals as goal

pub returns : goal.returns
returns c =
    let zc : FitsSigned w64 c.args.zc = c.ranges.zc in
    let r : FitsSigned w64 c.args.r = c.ranges.r in
    let zc' : FitsSigned w128 c.args.zc = search rules in
    let r' : FitsSigned w128 c.args.r = search rules in
    let part : FitsSigned w128 c.near.result = search rules in
    let is = simp to_z-of_z at c.near.ensures.value in
    let whole : FitsSigned w128 (c.args.zc +ℤ c.near.result) = search rules in
    simp to_z-of_z (ap (λ z. c.args.zc +ℤ z) is)
