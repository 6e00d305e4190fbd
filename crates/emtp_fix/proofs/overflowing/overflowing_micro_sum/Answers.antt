use Rattle.std.proofs.Common.{◌∙◌, sym, ap, ◌+ℤ◌, Some, FitsSigned, arith}
use mir.Syntax.{w64, w128}
use Rattle.std.proofs.lemmas.Int.{ints, to_z-of_z, fits_signed_from_abs}
use Rattle.emtp_fix.specs.Limit.{in_range}
use Rattle.emtp_fix.specs.Rounding.{near}
use Rattle.emtp_fix.specs.declared.limit.TheConstants.{MICRO}
use Rattle.emtp_fix.proofs.overflowing.overflowing_micro_sum.Goals as goal

pub returns-clause-value : goal.returns-clause-value
returns-clause-value c = λ none.
    let a : FitsSigned w64 c.args.a = c.ranges.a in
    let b : FitsSigned w64 c.args.b = c.ranges.b in
    let rest : FitsSigned w64 c.args.rest = c.ranges.rest in
    let whole : FitsSigned w128 c.wide_product.result = fits_signed_from_abs w128 c.wide_product.result (omega (arith, c.wide_product.ensures.small)) in
    let product = simp to_z-of_z at c.wide_product.ensures.value in
    let part : FitsSigned w64 c.overflowing_near_micro-part.result.0 = fits_signed_from_abs w64 c.overflowing_near_micro-part.result.0 (omega (arith, c.overflowing_near_micro-part.ensures.small)) in
    let part_is = simp to_z-of_z at (c.overflowing_near_micro-part.ensures.value (c.overflowing_range.ensures.overflow none)) in
    let sum : FitsSigned w64 (c.args.rest +ℤ c.overflowing_near_micro-part.result.0) = fits_signed_from_abs w64 (c.args.rest +ℤ c.overflowing_near_micro-part.result.0) (omega (arith, ints, c.requires, c.overflowing_near_micro-part.ensures.small)) in
    let same = simp to_z-of_z at c.overflowing_range.ensures.same in
    let value = simp to_z-of_z at (c.overflowing_range.ensures.value none) in
    let from = part_is ∙ ap (λ z. near z MICRO) product in
    ap (λ z. in_range (c.args.rest +ℤ z)) (sym from) ∙ value ∙ ap Some (sym same)
