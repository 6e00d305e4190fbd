use Rattle.std.proofs.Common.{◌≡◌, ◌∙◌, ap, ◌+ℤ◌, ◌*ℤ◌, FitsSigned, to_z, of_z, sym, subst, arith, rules, ℤ}
use mir.Syntax.{w64, w128}
use Rattle.std.proofs.lemmas.Int.{ints, to_z-of_z}
use Rattle.emtp_fix.specs.Rounding.{near}
use Rattle.emtp_line.specs.Wave.{between}
use Rattle.emtp_line.proofs.Bounds.{between_fits}
use Rattle.emtp_line.proofs.wave.interpolated.Goals as goal

between_is : (c : goal.After-portion) → to_z w128 (of_z w128 (to_z w128 (of_z w128 (to_z w64 (of_z w64 c.args.newer))) +ℤ to_z w128 (of_z w128 c.portion.result))) ≡ between c.args.mode.now c.args.newer c.args.older
between_is c =
    let f : FitsSigned w64 c.args.newer = c.ranges.newer in
    let g : FitsSigned w64 c.args.older = c.ranges.older in
    let rise : FitsSigned w128 c.rise.result = search rules in
    let part = simp to_z-of_z at c.portion.ensures.value in
    let rise_is = simp to_z-of_z at c.rise.ensures.value in
    let is = part ∙ ap (λ (z : ℤ). near (c.args.mode.now.rest *ℤ z) c.args.mode.now.dt) rise_is in
    omega (arith, ints, is, c.portion.ensures.bound)

pub overflow_cast-result-2 : goal.overflow_cast-result-2
overflow_cast-result-2 c = subst (FitsSigned w64) (sym (between_is c)) (between_fits c.args.mode.now c.args.newer c.args.older c.requires c.ranges.newer c.ranges.older)

pub returns : goal.returns
returns c = rw (between_is c) (to_z-of_z w64 _ (between_fits c.args.mode.now c.args.newer c.args.older c.requires c.ranges.newer c.ranges.older))
