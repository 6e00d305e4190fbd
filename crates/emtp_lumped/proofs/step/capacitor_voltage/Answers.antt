use Rattle.std.proofs.Common.{◌+ℤ◌, FitsSigned, rules}
use mir.Syntax.{w64}
use Rattle.std.proofs.lemmas.Int.{to_z-of_z}
use Rattle.emtp_lumped.proofs.step.capacitor_voltage.Goals as goal

pub returns-clause-value : goal.returns-clause-value
returns-clause-value c =
    let i : FitsSigned w64 c.args.i = c.ranges.i in
    let old : FitsSigned w64 c.args.old.now.current = search rules in
    let v : FitsSigned w64 c.args.old.now.v_c = search rules in
    let z : FitsSigned w64 c.args.companion.now.capacitor = search rules in
    let si : FitsSigned w64 (c.args.i +ℤ c.args.old.now.current) = search rules in
    simp to_z-of_z at c.micro_sum.ensures.value
