use Rattle.std.proofs.Common.{◌*◌, ◌^◌, ◌∙◌, ◌*ℤ◌, ap, FitsSigned, arith, rules}
use mir.Syntax.{w64, w128}
use Rattle.std.proofs.lemmas.Int.{ints, to_z-of_z, fits_signed_from_abs}
use Rattle.emtp_acting.specs.Fictitious.{held}
use Rattle.emtp_fix.proofs.Wide.{abs-mul-le}
use Rattle.emtp_acting.proofs.clean.inductance.Goals as goal

pub returns : goal.returns
returns c =
    let dt : FitsSigned w128 c.args.dt = c.ranges.dt in
    let zl : FitsSigned w128 c.args.zl = c.ranges.zl in
    let p : FitsSigned w128 (c.args.zl *ℤ c.args.dt) = fits_signed_from_abs w128 _ (omega (arith, abs-mul-le c.args.zl c.args.dt (2 * 10 ^ 21) (10 ^ 12) c.requires.zl (omega (arith, ints, c.requires.dt.least, c.requires.dt.most)))) in
    let n : FitsSigned w128 c.near.result = search rules in
    let is = simp to_z-of_z at c.near.ensures.value in
    let held_is = simp to_z-of_z at c.held.ensures in
    to_z-of_z w64 c.held.result (search rules) ∙ held_is ∙ ap held is
