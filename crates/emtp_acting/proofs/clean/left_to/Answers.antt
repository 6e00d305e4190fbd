use Rattle.std.proofs.Common.{◌-ℤ◌, ap, ℤ, FitsSigned, arith, rules}
use mir.Syntax.{w128}
use Rattle.std.proofs.lemmas.Int.{ints, to_z-of_z, fits_signed_from_abs}
use Rattle.emtp_acting.proofs.clean.left_to.Goals as goal

pub returns-clause-value : goal.returns-clause-value
returns-clause-value c =
    let g : FitsSigned w128 c.args.g = c.ranges.g in
    let r : FitsSigned w128 c.args.r = c.ranges.r in
    let zc : FitsSigned w128 c.args.zc = c.ranges.zc in
    let n : FitsSigned w128 c.near.result = search rules in
    let is = simp to_z-of_z at c.near.ensures.value in
    let small = c.near.ensures.bound in
    let one : FitsSigned w128 (c.near.result -ℤ c.args.r) = fits_signed_from_abs w128 _ (omega (arith, ints, small, c.requires.r.least, c.requires.r.most)) in
    let two : FitsSigned w128 (c.near.result -ℤ c.args.r -ℤ c.args.zc) = fits_signed_from_abs w128 _ (omega (arith, ints, small, c.requires.r.least, c.requires.r.most, c.requires.zc)) in
    simp to_z-of_z (ap (λ (x : ℤ). x -ℤ c.args.r -ℤ c.args.zc) is)
