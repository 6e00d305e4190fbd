use Rattle.std.proofs.Common.{◌∙◌, ap, ◌-ℤ◌, FitsSigned, arith, rules}
use mir.Syntax.{w64, w128}
use Rattle.std.proofs.lemmas.Int.{ints, to_z-of_z}
use Rattle.emtp_pseudo.proofs.step.resistor_history.Goals as goal

pub returns-clause-value : goal.returns-clause-value
returns-clause-value c = λ old.
    let g : FitsSigned w64 c.args.s.now.conductance = search rules in
    let b : FitsSigned w64 c.args.s.now.base.current = search rules in
    let y : FitsSigned w64 c.args.s.now.base.other = search rules in
    let y' : FitsSigned w128 c.args.s.now.base.other = search rules in
    let is = simp to_z-of_z at c.driven.ensures.value in
    omega (arith, ints, c.driven.ensures.bound, c.requires.1.base_current) ∙ ap (λ z. c.args.s.now.base.current -ℤ z) is
