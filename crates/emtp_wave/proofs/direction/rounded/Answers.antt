use Rattle.std.proofs.Common.{FitsSigned, ◌^◌, ◌*◌, pos, arith, rules}
use mir.Syntax.{w64, w128}
use Rattle.std.proofs.lemmas.Int.{to_z-of_z}
use Rattle.emtp_fix.proofs.Quotients.{near-within}
use Rattle.emtp_fix.proofs.Wide.{narrow_is}
use Rattle.emtp_wave.proofs.direction.rounded.Goals as goal

pub returns : goal.returns
returns c =
    let d : FitsSigned w64 c.args.d.now.cosine = search rules in
    let d' : FitsSigned w128 c.args.d.now.cosine = search rules in
    let is = simp to_z-of_z at c.near.ensures.value in
    narrow_is c.near.result _ is (omega (arith, near-within c.args.d.now.cosine (pos (10 ^ 6)) (2 * 10 ^ 12) (omega (arith, c.requires.cosine_small))))
