use Rattle.std.proofs.Common.{◌∙◌, ◌*ℤ◌, pos, FitsSigned, arith, rules}
use mir.Syntax.{w128}
use Rattle.std.proofs.lemmas.Int.{ints, to_z-of_z, fits_signed_from_abs}
use Rattle.emtp_fix.specs.declared.limit.TheConstants.{NANO}
use Rattle.emtp_acting.proofs.capacitance.half_step.Goals as goal

pub returns : goal.returns
returns c =
    let dt : FitsSigned w128 c.args.dt = c.ranges.dt in
    let zc : FitsSigned w128 c.args.zc = c.ranges.zc in
    let twice : FitsSigned w128 (pos 2 *ℤ c.args.zc) = fits_signed_from_abs w128 _ (omega (arith, ints, c.requires.zc)) in
    let step : FitsSigned w128 (c.args.dt *ℤ NANO) = fits_signed_from_abs w128 _ (omega (arith, ints, c.requires.dt.least, c.requires.dt.most)) in
    let is = simp to_z-of_z at c.near.ensures.value in
    to_z-of_z w128 c.near.result (search rules) ∙ is
