use Rattle.std.proofs.Common.{◌≡◌, ◌≢◌, ◌∙◌, ap, sym, pos, arith, rules, FitsSigned}
use mir.Syntax.{w64, w128}
use Rattle.std.proofs.lemmas.Int.{ints, to_z-of_z}
use Rattle.emtp_case.specs.Branch.{capacitor_impedance}
use Rattle.emtp_case.proofs.Impedances.{capacitor-none, capacitor-some}
use Rattle.emtp_case.proofs.impedance.capacitor_impedance.Goals as goal

pub returns-then-c-eq0-clause-value : goal.returns-then-c-eq0-clause-value
returns-then-c-eq0-clause-value c =
    let none : c.args.c ≡ pos 0 = omega (arith, ints) in
    sym (ap (capacitor_impedance c.args.dt) none ∙ capacitor-none c.args.dt)

pub returns-else-c-eq0-clause-value : goal.returns-else-c-eq0-clause-value
returns-else-c-eq0-clause-value c =
    let some : c.args.c ≢ pos 0 = λ e. omega (arith, ints, e) in
    let r : FitsSigned w128 c.half_step.result = search rules in
    let dt : FitsSigned w64 c.args.dt = c.ranges.dt in
    let cap : FitsSigned w64 c.args.c = c.ranges.c in
    let is = simp to_z-of_z at c.half_step.ensures.value in
    to_z-of_z w128 c.half_step.result r ∙ is ∙ sym (capacitor-some c.args.dt c.args.c some)
