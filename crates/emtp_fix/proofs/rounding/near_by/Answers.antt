use Rattle.std.proofs.Common.{◌≡◌, to_z, of_z, arith}
use mir.Syntax.{w128}
use Rattle.std.proofs.lemmas.Int.{ints}
use Rattle.emtp_fix.specs.Rounding.{near}
use Rattle.emtp_fix.proofs.Nearest.{near-nearest, unsigned_abs-near-le}
use Rattle.emtp_fix.proofs.rounding.near_by.Goals as goal

pub returns-clause-nearest : goal.returns-clause-nearest
returns-clause-nearest c =
    let wide_a : to_z w128 (of_z w128 c.args.a) ≡ c.args.a = omega (arith, ints) in
    let wide_b : to_z w128 (of_z w128 c.args.b) ≡ c.args.b = omega (arith, ints) in
    let wide : to_z w128 (of_z w128 c.signed_by.result) ≡ c.signed_by.result = omega (arith, ints) in
    let is : c.signed_by.result ≡ near c.args.a c.args.b = cc in
    rw (wide, is) (near-nearest c.args.a c.args.b c.requires.nonzero)

pub returns-clause-bound : goal.returns-clause-bound
returns-clause-bound c =
    let wide_a : to_z w128 (of_z w128 c.args.a) ≡ c.args.a = omega (arith, ints) in
    let wide_b : to_z w128 (of_z w128 c.args.b) ≡ c.args.b = omega (arith, ints) in
    let is : c.signed_by.result ≡ near c.args.a c.args.b = cc in
    omega (arith, ints, is, unsigned_abs-near-le c.args.a c.args.b)
