use Rattle.std.proofs.Common.{◌≡◌, ◌^◌, ap, pos, unsigned_abs, to_z, of_z, arith}
use mir.Syntax.{w128}
use Rattle.std.proofs.lemmas.Int.{ints}
use Rattle.emtp_fix.specs.Rounding.{near}
use Rattle.emtp_fix.proofs.Quotients.{near-within}
use Rattle.emtp_blocks.proofs.scaling.in_nano.Goals as goal

pub returns-clause-bound : goal.returns-clause-bound
returns-clause-bound c =
    let x : to_z w128 (of_z w128 c.args.x) ≡ c.args.x = omega (arith, ints, c.requires) in
    let is : c.near.result ≡ near c.args.x (pos (10 ^ 9)) = rw x at c.near.ensures.value in
    let small = near-within c.args.x (pos (10 ^ 9)) (10 ^ 30) (omega (arith, c.requires)) in
    omega (arith, ints, ap unsigned_abs is, small)
