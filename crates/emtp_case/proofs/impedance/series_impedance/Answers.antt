use Rattle.std.proofs.Common.{◌∙◌, ◌+ℤ◌, ap, FitsSigned, rules}
use mir.Syntax.{w64, w128}
use Rattle.std.proofs.lemmas.Int.{to_z-of_z}
use Rattle.emtp_case.specs.Branch.{inductor_impedance}
use Rattle.emtp_case.proofs.impedance.series_impedance.Goals as goal

pub returns : goal.returns
returns c =
    let dt : FitsSigned w64 c.args.dt = c.ranges.dt in
    let resistance : FitsSigned w64 c.args.r = c.ranges.r in
    let inductance : FitsSigned w64 c.args.l = c.ranges.l in
    let capacitance : FitsSigned w64 c.args.c = c.ranges.c in
    let r' : FitsSigned w128 c.args.r = search rules in
    let inductor : FitsSigned w128 c.inductor_impedance.result = search rules in
    let capacitor : FitsSigned w128 c.capacitor_impedance.result = search rules in
    let two : FitsSigned w128 (c.args.r +ℤ c.inductor_impedance.result) = search rules in
    let three : FitsSigned w128 (c.args.r +ℤ c.inductor_impedance.result +ℤ c.capacitor_impedance.result) = search rules in
    let l_is = simp to_z-of_z at c.inductor_impedance.ensures.value in
    let c_is = simp to_z-of_z at c.capacitor_impedance.ensures.value in
    simp to_z-of_z (ap (λ z. c.args.r +ℤ z +ℤ c.capacitor_impedance.result) l_is ∙ ap (λ z. c.args.r +ℤ inductor_impedance c.args.dt c.args.l +ℤ z) c_is)
