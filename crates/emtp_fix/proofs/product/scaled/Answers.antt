use Rattle.std.proofs.Common.{◌≡◌, ◌∙◌, ap, ◌*◌, ◌^◌, ◌*ℤ◌, ◌≤◌, ℤ, unsigned_abs, FitsSigned, to_z, of_z, arith, rules, lit<}
use mir.Syntax.{w128}
use Rattle.std.proofs.lemmas.Int.{to_z-of_z, fits_signed_mul}
use Rattle.emtp_fix.specs.Rounding.{near}
use Rattle.emtp_fix.proofs.Wide.{abs-mul-le}
use Rattle.emtp_fix.proofs.Nearest.{unsigned_abs-near-le}
use Rattle.emtp_fix.proofs.Quotients.{near-within}
use Rattle.emtp_fix.proofs.product.scaled.Goals as goal

fits : (a b : ℤ) → unsigned_abs a ≤ 8 * 10 ^ 18 → unsigned_abs b ≤ 2 * 10 ^ 19 → FitsSigned w128 (a *ℤ b)
fits a b small_a small_b = fits_signed_mul w128 a b (8 * 10 ^ 18) (2 * 10 ^ 19) small_a small_b (lit< tt)

pub overflow_mul-a : goal.overflow_mul-a
overflow_mul-a c =
    rw (to_z-of_z w128 c.args.a c.ranges.a, to_z-of_z w128 c.args.b c.ranges.b) (fits c.args.a c.args.b c.requires.a c.requires.b)

pub near-requires-clause-small_a : goal.near-requires-clause-small_a
near-requires-clause-small_a c =
    let ab = fits c.args.a c.args.b c.requires.a c.requires.b in
    rw (to_z-of_z w128 c.args.a c.ranges.a, to_z-of_z w128 c.args.b c.ranges.b, to_z-of_z w128 (c.args.a *ℤ c.args.b) ab)
    (omega (arith, abs-mul-le c.args.a c.args.b (8 * 10 ^ 18) (2 * 10 ^ 19) c.requires.a c.requires.b))

pub returns-clause-value : goal.returns-clause-value
returns-clause-value c =
    let a : FitsSigned w128 c.args.a = c.ranges.a in
    let b : FitsSigned w128 c.args.b = c.ranges.b in
    let d : FitsSigned w128 c.args.unit = c.ranges.unit in
    let ab : FitsSigned w128 (c.args.a *ℤ c.args.b) = fits c.args.a c.args.b c.requires.a c.requires.b in
    let r : FitsSigned w128 c.near.result = search rules in
    let is = simp to_z-of_z at c.near.ensures.value in
    to_z-of_z w128 c.near.result r ∙ is

pub returns-clause-within : goal.returns-clause-within
returns-clause-within c = λ m h.
    let is : to_z w128 (of_z w128 c.near.result) ≡ near (c.args.a *ℤ c.args.b) c.args.unit = returns-clause-value c in
    omega (arith, ap unsigned_abs is, near-within (c.args.a *ℤ c.args.b) c.args.unit m h)

pub returns-clause-bound : goal.returns-clause-bound
returns-clause-bound c =
    let is : to_z w128 (of_z w128 c.near.result) ≡ near (c.args.a *ℤ c.args.b) c.args.unit = returns-clause-value c in
    omega (arith, ap unsigned_abs is, unsigned_abs-near-le (c.args.a *ℤ c.args.b) c.args.unit, abs-mul-le c.args.a c.args.b (8 * 10 ^ 18) (2 * 10 ^ 19) c.requires.a c.requires.b)
