use Rattle.std.proofs.Common.{◌∙◌, ap, ◌+ℤ◌, ◌*ℤ◌, FitsSigned, arith, rules}
use mir.Syntax.{w64, w128}
use Rattle.std.proofs.lemmas.Int.{ints, to_z-of_z}
use Rattle.emtp_fix.specs.Rounding.{near}
use Rattle.emtp_fix.specs.declared.limit.TheConstants.{PICO}
use Rattle.emtp_pseudo.proofs.step.current.Goals as goal

pub returns : goal.returns
returns c =
    let v : FitsSigned w128 c.args.v = c.ranges.v in
    let h : FitsSigned w128 c.args.history = c.ranges.history in
    let g : FitsSigned w64 c.args.s.now.conductance = search rules in
    let is = simp to_z-of_z at c.driven.ensures.value in
    omega (arith, ints, c.driven.ensures.bound, c.requires.small)
    ∙ ap (λ z. z +ℤ c.args.history) is
    ∙ ap (λ z. near (c.args.s.now.conductance *ℤ c.args.v) PICO +ℤ z) c.requires.history
