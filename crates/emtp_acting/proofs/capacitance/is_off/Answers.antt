use Rattle.std.proofs.Common.{◌∙◌, ◌*ℤ◌, ap, ℤ, pos, FitsSigned, arith}
use mir.Syntax.{w128}
use Rattle.std.proofs.lemmas.Int.{ints, to_z-of_z, fits_signed_from_abs}
use Rattle.emtp_acting.specs.Capacitance.{is_rest_off}
use Rattle.emtp_fix.specs.declared.limit.TheConstants.{NANO}
use Rattle.emtp_acting.proofs.capacitance.is_off.Goals as goal

pub returns : goal.returns
returns c =
    let dt : FitsSigned w128 c.args.dt = c.ranges.dt in
    let zc : FitsSigned w128 c.args.zc = c.ranges.zc in
    let cap : FitsSigned w128 c.args.c = c.ranges.c in
    let twice : FitsSigned w128 (pos 2 *ℤ c.args.c) = fits_signed_from_abs w128 _ (omega (arith, ints, c.requires.c.least, c.requires.c.most)) in
    let step : FitsSigned w128 (c.args.dt *ℤ NANO) = fits_signed_from_abs w128 _ (omega (arith, ints, c.requires.dt.least, c.requires.dt.most)) in
    let own : FitsSigned w128 c.product.result = fits_signed_from_abs w128 _ (omega (arith, c.product.ensures.bound)) in
    let own_is = simp to_z-of_z at c.product.ensures.value in
    let is = simp to_z-of_z at c.is_rest_off.ensures in
    is ∙ ap (λ (x : ℤ). is_rest_off (c.args.dt *ℤ NANO) x) own_is
