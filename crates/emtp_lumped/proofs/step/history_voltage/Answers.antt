use Rattle.std.proofs.Common.{◌-ℤ◌, FitsSigned, rules}
use mir.Syntax.{w64}
use Rattle.std.proofs.lemmas.Int.{to_z-of_z}
use Rattle.emtp_lumped.proofs.step.history_voltage.Goals as goal

pub returns-clause-value : goal.returns-clause-value
returns-clause-value c =
    let i : FitsSigned w64 c.args.i = c.ranges.i in
    let v_l : FitsSigned w64 c.args.v_l = c.ranges.v_l in
    let v_c : FitsSigned w64 c.args.v_c = c.ranges.v_c in
    let d : FitsSigned w64 (c.args.v_l -ℤ c.args.v_c) = search rules in
    let zl : FitsSigned w64 c.args.companion.now.inductor = search rules in
    let zc : FitsSigned w64 c.args.companion.now.capacitor = search rules in
    let dz : FitsSigned w64 (c.args.companion.now.inductor -ℤ c.args.companion.now.capacitor) = search rules in
    simp to_z-of_z at c.micro_sum.ensures.value
