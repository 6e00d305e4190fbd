use Rattle.std.proofs.Common.{◌≡◌, pos, ◌-ℤ◌, ap, sym, ◌∙◌, FitsSigned, arith}
use mir.Syntax.{w128}
use Rattle.std.proofs.lemmas.Int.{ints, to_z-of_z}
use Rattle.emtp_fix.proofs.Wide.{through}
use Rattle.emtp_elim.proofs.Products.{less_product-zero_left}
use Rattle.emtp_elim.proofs.arithmetic.less.Goals as goal

pub returns-then-m-eq0 : goal.returns-then-m-eq0
returns-then-m-eq0 c =
    let none : c.args.m ≡ pos 0 = omega (arith, ints) in
    through c.args.a (omega arith) ∙ sym (rw none (less_product-zero_left c.args.a c.args.p))

pub scaled-requires-clause-a : goal.scaled-requires-clause-a
scaled-requires-clause-a c = omega (arith, ints, c.requires.m)

pub scaled-requires-clause-b : goal.scaled-requires-clause-b
scaled-requires-clause-b c = omega (arith, ints, c.requires.p)

pub overflow_sub-result : goal.overflow_sub-result
overflow_sub-result c = omega (arith, ints, c.requires.a, c.scaled.ensures.bound)

pub returns : goal.returns
returns c =
    let m : FitsSigned w128 c.args.m = c.ranges.m in
    let p : FitsSigned w128 c.args.p = c.ranges.p in
    let is = simp to_z-of_z at c.scaled.ensures.value in
    omega (arith, ints, c.requires.a, c.scaled.ensures.bound) ∙ ap (λ z. c.args.a -ℤ z) is
