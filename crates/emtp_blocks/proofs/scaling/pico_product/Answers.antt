use Rattle.std.proofs.Common.{◌∙◌, ap, unsigned_abs, FitsSigned, arith}
use mir.Syntax.{w64, w128}
use Rattle.std.proofs.lemmas.Int.{ints, to_z-of_z, fits_signed_from_abs}
use Rattle.emtp_fix.specs.Rounding.{near}
use Rattle.emtp_fix.specs.declared.limit.TheConstants.{PICO}
use Rattle.emtp_blocks.proofs.scaling.pico_product.Goals as goal

pub returns-clause-value : goal.returns-clause-value
returns-clause-value c =
    let none = c.if-overflow-ne0.false in
    let a : FitsSigned w64 c.args.a = c.ranges.a in
    let b : FitsSigned w64 c.args.b = c.ranges.b in
    let whole : FitsSigned w128 c.wide_product.result = fits_signed_from_abs w128 c.wide_product.result (omega (arith, c.wide_product.ensures.small)) in
    let product = simp to_z-of_z at c.wide_product.ensures.value in
    let q : FitsSigned w64 c.overflowing_near_pico-quotient.result.0 = fits_signed_from_abs w64 c.overflowing_near_pico-quotient.result.0 (omega (arith, c.overflowing_near_pico-quotient.ensures.small)) in
    let value = (simp to_z-of_z at (c.overflowing_near_pico-quotient.ensures.value none)) ∙ ap (λ x. near x PICO) product in
    let from = simp to_z-of_z at c.from.ensures in
    let wide : FitsSigned w128 c.from.result = fits_signed_from_abs w128 c.from.result (omega (arith, ints, ap unsigned_abs from, c.overflowing_near_pico-quotient.ensures.small)) in
    to_z-of_z w128 c.from.result wide ∙ from ∙ value
