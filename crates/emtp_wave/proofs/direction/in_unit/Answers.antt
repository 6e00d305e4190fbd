use Rattle.std.proofs.Common.{FitsSigned, ◌^◌, ◌*◌, pos, arith}
use mir.Syntax.{w128}
use Rattle.std.proofs.lemmas.Int.{to_z-of_z}
use Rattle.emtp_fix.proofs.Quotients.{near-within}
use Rattle.emtp_fix.proofs.Wide.{narrow_fits, narrow_is}
use Rattle.emtp_wave.proofs.direction.in_unit.Goals as goal

pub overflow_cast-result : goal.overflow_cast-result
overflow_cast-result c =
    let x : FitsSigned w128 c.args.x = c.ranges.x in
    let is = simp to_z-of_z at c.near.ensures.value in
    narrow_fits c.near.result _ is (omega (arith, near-within c.args.x (pos (10 ^ 18)) (3 * 10 ^ 18) (omega (arith, c.requires))))

pub returns : goal.returns
returns c =
    let x : FitsSigned w128 c.args.x = c.ranges.x in
    let is = simp to_z-of_z at c.near.ensures.value in
    narrow_is c.near.result _ is (omega (arith, near-within c.args.x (pos (10 ^ 18)) (3 * 10 ^ 18) (omega (arith, c.requires))))
