use Rattle.std.proofs.Common.{◌≡◌, ◌∙◌, ap, ◌+ℤ◌, ◌-ℤ◌, ◌*ℤ◌, pos, FitsSigned, arith, rules}
use mir.Syntax.{w64}
use Rattle.std.proofs.lemmas.Int.{ints, to_z-of_z}
use Rattle.emtp_fix.specs.Limit.{in_range}
use Rattle.emtp_fix.specs.Rounding.{near}
use Rattle.emtp_fix.specs.declared.limit.TheConstants.{MICRO}
use Rattle.emtp_lumped.specs.Step.{inductor_voltage_of}
use Rattle.emtp_lumped.proofs.step.inductor_voltage.Goals as goal

pub returns-clause-value : goal.returns-clause-value
returns-clause-value c =
    let i : FitsSigned w64 c.args.i = c.ranges.i in
    let old : FitsSigned w64 c.args.old.now.current = search rules in
    let v : FitsSigned w64 c.args.old.now.v_l = search rules in
    let v' : FitsSigned w64 (pos 0 -ℤ c.args.old.now.v_l) = search rules in
    let z : FitsSigned w64 c.args.companion.now.inductor = search rules in
    let di : FitsSigned w64 (c.args.i -ℤ c.args.old.now.current) = search rules in
    let is = simp to_z-of_z at c.micro_sum.ensures.value in
    let same : (pos 0 -ℤ c.args.old.now.v_l) +ℤ near (c.args.companion.now.inductor *ℤ (c.args.i -ℤ c.args.old.now.current)) MICRO ≡ inductor_voltage_of c.args.companion.now c.args.old.now c.args.i = omega (arith, ints) in
    is ∙ ap in_range same
