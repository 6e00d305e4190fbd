use Rattle.std.proofs.Common.{◌∙◌, ap, ◌≤◌, ◌^◌, ◌*ℤ◌, unsigned_abs, FitsSigned, to_z, of_z, arith, rules}
use mir.Syntax.{w64, w128}
use Rattle.std.proofs.lemmas.Int.{ints, to_z-of_z}
use Rattle.emtp_fix.proofs.Wide.{abs-mul-le}
use Rattle.emtp_line.proofs.Products.{IsProduct, product}
use Rattle.emtp_line.proofs.phase_end.product.Goals as goal

small : (c : goal.Start) → unsigned_abs c.args.v ≤ 2 ^ 63
small c = omega (arith, ints, c.ranges.v)

is_product : (c : goal.Start) → IsProduct c.args.g (to_z w64 (of_z w64 c.args.v))
is_product c =
    let v : FitsSigned w64 c.args.v = c.ranges.v in
    let v' : FitsSigned w128 c.args.v = search rules in
    rw (to_z-of_z w64 c.args.v v) (product c.ranges.g v' c.requires (small c) (omega arith))

pub overflow_mul-result : goal.overflow_mul-result
overflow_mul-result c = (is_product c).fits

pub returns-clause-value : goal.returns-clause-value
returns-clause-value c = (is_product c).is ∙ ap (λ z. c.args.g *ℤ z) (to_z-of_z w64 c.args.v c.ranges.v)

pub returns-clause-bound : goal.returns-clause-bound
returns-clause-bound c =
    let within = abs-mul-le c.args.g c.args.v (10 ^ 17) (2 ^ 63) c.requires (small c) in
    omega (arith, ap unsigned_abs (returns-clause-value c), within)
