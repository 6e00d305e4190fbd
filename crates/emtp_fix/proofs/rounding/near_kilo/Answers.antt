use Rattle.std.proofs.Common.{◌≡◌, ◌^◌, unsigned_abs, to_z, of_z, arith}
use mir.Syntax.{w128}
use Rattle.std.proofs.lemmas.Int.{ints}
use Rattle.emtp_fix.proofs.Nearest.{near_abs-even}
use Rattle.emtp_fix.proofs.rounding.near_kilo.Goals as goal

pub returns : goal.returns
returns c =
    let wide : to_z w128 (of_z w128 c.args.a) ≡ c.args.a = omega (arith, ints) in
    let is = c.with_sign_of.ensures.value (10 ^ 3) (omega (arith, near_abs-even (unsigned_abs (to_z w128 (of_z w128 c.args.a))) 500 (omega arith))) in
    omega (arith, ints, rw wide at is)
