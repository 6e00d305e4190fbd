use Rattle.std.proofs.Common.{◌∙◌, ◌^◌, ◌*ℤ◌, ◌≤◌, ℤ, unsigned_abs, FitsSigned, rules, arith, lit<}
use mir.Syntax.{w128}
use Rattle.std.proofs.lemmas.Int.{to_z-of_z, fits_signed_mul}
use Rattle.emtp_fix.proofs.Wide.{abs-mul-le}
use Rattle.emtp_pseudo.proofs.step.quotient.Goals as goal

fits : (a b : ℤ) → unsigned_abs a ≤ 10 ^ 18 → unsigned_abs b ≤ 2 ^ 65 → FitsSigned w128 (a *ℤ b)
fits a b small_a small_b = fits_signed_mul w128 a b (10 ^ 18) (2 ^ 65) small_a small_b (lit< tt)

pub overflow_mul-a : goal.overflow_mul-a
overflow_mul-a c =
    rw (to_z-of_z w128 c.args.a c.ranges.a, to_z-of_z w128 c.args.b c.ranges.b) (fits c.args.a c.args.b c.requires.a c.requires.b)

pub near_by-requires-clause-small_a : goal.near_by-requires-clause-small_a
near_by-requires-clause-small_a c =
    let ab = fits c.args.a c.args.b c.requires.a c.requires.b in
    rw (to_z-of_z w128 c.args.a c.ranges.a, to_z-of_z w128 c.args.b c.ranges.b, to_z-of_z w128 (c.args.a *ℤ c.args.b) ab)
    (omega (arith, abs-mul-le c.args.a c.args.b (10 ^ 18) (2 ^ 65) c.requires.a c.requires.b))

pub returns : goal.returns
returns c =
    let a : FitsSigned w128 c.args.a = c.ranges.a in
    let b : FitsSigned w128 c.args.b = c.ranges.b in
    let d : FitsSigned w128 c.args.d = c.ranges.d in
    let ab : FitsSigned w128 (c.args.a *ℤ c.args.b) = fits c.args.a c.args.b c.requires.a c.requires.b in
    let r : FitsSigned w128 c.near_by.result = search rules in
    let is = simp to_z-of_z at c.near_by.ensures.value in
    to_z-of_z w128 c.near_by.result r ∙ is
