use Rattle.std.proofs.Common.{◌∙◌, ap, ◌+ℤ◌, ◌-ℤ◌, ◌*ℤ◌, FitsSigned, arith, rules}
use mir.Syntax.{w64, w128}
use Rattle.std.proofs.lemmas.Int.{ints, to_z-of_z}
use Rattle.emtp_fix.specs.Rounding.{near}
use Rattle.emtp_fix.specs.declared.limit.TheConstants.{PICO}
use Rattle.emtp_pseudo.proofs.step.reactor_history.Goals as goal

pub returns-clause-value : goal.returns-clause-value
returns-clause-value c =
    let g : FitsSigned w64 c.args.s.now.conductance = search rules in
    let o : FitsSigned w128 c.args.old.now.voltage = search rules in
    let b : FitsSigned w64 c.args.s.now.base.current = search rules in
    let y : FitsSigned w64 c.args.s.now.base.other = search rules in
    let f : FitsSigned w64 c.args.old.now.state.flux = search rules in
    let d : FitsSigned w64 (c.args.old.now.state.flux -ℤ c.args.s.now.base.other) = search rules in
    let is = simp to_z-of_z at c.driven.ensures.value in
    let is' = simp to_z-of_z at c.along.ensures.value in
    omega (arith, ints, c.driven.ensures.bound, c.along.ensures.bound, c.requires.segment.base_current)
    ∙ ap (λ z. (z +ℤ c.args.s.now.base.current) +ℤ c.along.result) is
    ∙ ap (λ z. (near (c.args.s.now.conductance *ℤ c.args.old.now.voltage) PICO +ℤ c.args.s.now.base.current) +ℤ z) is'

pub driven-requires-clause-v : goal.driven-requires-clause-v
driven-requires-clause-v c = omega (arith, ints, c.requires.old.voltage)

pub overflow_add-result : goal.overflow_add-result
overflow_add-result c = omega (arith, ints, c.driven.ensures.bound, c.requires.segment.base_current)

pub overflow_sub-old : goal.overflow_sub-old
overflow_sub-old c = omega (arith, ints, c.requires.old.flux, c.requires.segment.base_other)

pub along-requires-clause-flux : goal.along-requires-clause-flux
along-requires-clause-flux c = omega (arith, ints, c.requires.old.flux, c.requires.segment.base_other)

pub overflow_add-result-2 : goal.overflow_add-result-2
overflow_add-result-2 c = omega (arith, ints, c.driven.ensures.bound, c.along.ensures.bound, c.requires.segment.base_current)

pub returns-clause-bound : goal.returns-clause-bound
returns-clause-bound c = omega (arith, ints, c.driven.ensures.bound, c.along.ensures.bound, c.requires.segment.base_current)
