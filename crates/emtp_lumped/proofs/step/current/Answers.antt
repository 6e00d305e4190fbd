use Rattle.std.proofs.Common.{◌≡◌, ◌∙◌, ap, ◌+ℤ◌, ◌≤◌, ◌^◌, unsigned_abs, FitsSigned, arith, rules}
use mir.Syntax.{w64, w128}
use Rattle.std.proofs.lemmas.Int.{ints, to_z-of_z}
use Rattle.emtp_lumped.specs.Step.{current_of}
use Rattle.emtp_lumped.proofs.Holding.{history-small}
use Rattle.emtp_lumped.proofs.step.current.Goals as goal

small : (c : goal.After-product) → unsigned_abs c.args.history ≤ 10 ^ 30
small c = omega (arith, ap unsigned_abs c.requires.history, history-small c.args.companion.now c.args.old.now c.requires.companion c.requires.old)

pub overflow_add-result : goal.overflow_add-result
overflow_add-result c = let s = small c in omega (arith, ints, s, c.product.ensures.bound)

pub returns : goal.returns
returns c =
    let s = small c in
    let g : FitsSigned w64 c.args.companion.now.conductance = search rules in
    let v : FitsSigned w128 c.args.v = c.ranges.v in
    let is = simp to_z-of_z at c.product.ensures.value in
    let step : c.product.result +ℤ c.args.history ≡ current_of c.args.companion.now c.args.old.now c.args.v = omega (arith, ints, is, c.requires.history) in
    omega (arith, ints, s, c.product.ensures.bound) ∙ step
