use Rattle.std.proofs.Common.{◌≡◌, ◌-ℤ◌, ◌≤◌, ◌^◌, ℤ, FitsSigned, arith, of_z, to_z, unsigned_abs}
use mir.Syntax.{w64, w128}
use Rattle.std.proofs.lemmas.Int.{ints, to_z-of_z}
use Rattle.emtp_fix.proofs.Wide.{abs-sub-le, through}
use Rattle.emtp_expr.proofs.operators.difference.Goals as goal

size : (x : ℤ) → FitsSigned w64 x → unsigned_abs x ≤ 2 ^ 63
size x fits = omega (arith, ints, fits.sfits)

-- a number as the code widens it
widened : (x : ℤ) → FitsSigned w64 x → to_z w128 (of_z w128 x) ≡ x
widened x fits = through x (omega (arith, size x fits))

pub returns-clause-value : goal.returns-clause-value
returns-clause-value c =
    let a = c.args.a in
    let b = c.args.b in
    let less : to_z w128 (of_z w128 (a -ℤ b)) ≡ a -ℤ b = through (a -ℤ b) (omega (arith, abs-sub-le a b, size a c.ranges.a, size b c.ranges.b)) in
    rw (to_z-of_z w64 a c.ranges.a, to_z-of_z w64 b c.ranges.b, widened a c.ranges.a, widened b c.ranges.b, less) at c.in_range.ensures.value
