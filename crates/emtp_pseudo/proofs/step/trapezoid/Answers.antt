use Rattle.std.proofs.Common.{◌≡◌, ◌∙◌, ap, unsigned_abs, ◌+ℤ◌, ◌*ℤ◌, ◌*◌, ◌≤◌, ◌^◌, FitsSigned, arith, rules}
use mir.Syntax.{w64, w128}
use Rattle.std.proofs.lemmas.Int.{ints, to_z-of_z}
use Rattle.emtp_fix.specs.Rounding.{near}
use Rattle.emtp_fix.proofs.Quotients.{near-product}
use Rattle.emtp_pseudo.specs.Step.{DOUBLE_NANO}
use Rattle.emtp_pseudo.proofs.step.trapezoid.Goals as goal

quotient_is : (c : goal.After-quotient) → c.quotient.result ≡ near (c.args.dt *ℤ (c.args.old +ℤ c.args.v)) DOUBLE_NANO
quotient_is c =
    let v : FitsSigned w128 c.args.v = c.ranges.v in
    let o : FitsSigned w128 c.args.old = c.ranges.old in
    let sum : FitsSigned w128 (c.args.old +ℤ c.args.v) = search rules in
    let dt : FitsSigned w64 c.args.dt = c.ranges.dt in
    let dt' : FitsSigned w128 c.args.dt = search rules in
    simp to_z-of_z at c.quotient.ensures

pub returns-clause-value : goal.returns-clause-value
returns-clause-value c = let r : FitsSigned w128 c.quotient.result = search rules in to_z-of_z w128 c.quotient.result r ∙ quotient_is c

pub returns-clause-bound : goal.returns-clause-bound
returns-clause-bound c =
    let wide : unsigned_abs (c.args.old +ℤ c.args.v) ≤ 2 ^ 65 = omega (arith, ints, c.requires.old, c.requires.v) in
    let small = near-product c.args.dt (c.args.old +ℤ c.args.v) DOUBLE_NANO (10 ^ 12) (2 ^ 65) (2 * 10 ^ 9) (10 ^ 30) (omega (arith, ints, c.requires.dt.least, c.requires.dt.most)) wide (omega arith) (omega arith) in
    omega (arith, ints, ap unsigned_abs (quotient_is c), small)

pub quotient-requires-clause-a : goal.quotient-requires-clause-a
quotient-requires-clause-a c = omega (arith, ints, c.requires.dt.least, c.requires.dt.most)

pub quotient-requires-clause-b : goal.quotient-requires-clause-b
quotient-requires-clause-b c = omega (arith, ints, c.requires.old, c.requires.v)
