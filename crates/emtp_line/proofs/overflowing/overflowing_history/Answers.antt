use Rattle.std.proofs.Common.{◌∙◌, ap, ◌-ℤ◌, pos, FitsSigned, arith, rules}
use mir.Syntax.{w64, w128}
use Rattle.std.proofs.lemmas.Int.{ints, to_z-of_z, fits_signed_from_abs}
use Rattle.emtp_fix.specs.Rounding.{near}
use Rattle.emtp_fix.specs.declared.limit.TheConstants.{PICO}
use Rattle.emtp_line.proofs.overflowing.overflowing_history.Goals as goal

pub overflow_sub-result-2 : goal.overflow_sub-result-2
overflow_sub-result-2 c =
    let far = c.overflowing_near_pico-far in
    let own = c.overflowing_near_pico-near in
    let a : FitsSigned w64 far.result.0 = fits_signed_from_abs w64 far.result.0 (omega (arith, far.ensures.small)) in
    let b : FitsSigned w64 own.result.0 = fits_signed_from_abs w64 own.result.0 (omega (arith, own.ensures.small)) in
    let turned : FitsSigned w64 (pos 0 -ℤ far.result.0) = fits_signed_from_abs w64 (pos 0 -ℤ far.result.0) (omega (arith, ints, far.ensures.small)) in
    let sum : FitsSigned w64 ((pos 0 -ℤ far.result.0) -ℤ own.result.0) = fits_signed_from_abs w64 ((pos 0 -ℤ far.result.0) -ℤ own.result.0) (omega (arith, ints, far.ensures.small, own.ensures.small)) in
    simp to_z-of_z sum

pub returns-clause-value : goal.returns-clause-value
returns-clause-value c = λ none.
    let far = c.overflowing_near_pico-far in
    let own = c.overflowing_near_pico-near in
    let share : FitsSigned w64 c.args.mode.now.far_share = search rules in
    let rest : FitsSigned w64 c.args.mode.now.near_share = search rules in
    let x : FitsSigned w64 c.args.other = c.ranges.other in
    let y : FitsSigned w64 c.args.own = c.ranges.own in
    let w : FitsSigned w128 c.wide_product.result = fits_signed_from_abs w128 c.wide_product.result (omega (arith, c.wide_product.ensures.small)) in
    let w' : FitsSigned w128 c.wide_product-2.result = fits_signed_from_abs w128 c.wide_product-2.result (omega (arith, c.wide_product-2.ensures.small)) in
    let a : FitsSigned w64 far.result.0 = fits_signed_from_abs w64 far.result.0 (omega (arith, far.ensures.small)) in
    let b : FitsSigned w64 own.result.0 = fits_signed_from_abs w64 own.result.0 (omega (arith, own.ensures.small)) in
    let turned : FitsSigned w64 (pos 0 -ℤ far.result.0) = fits_signed_from_abs w64 (pos 0 -ℤ far.result.0) (omega (arith, ints, far.ensures.small)) in
    let sum : FitsSigned w64 ((pos 0 -ℤ far.result.0) -ℤ own.result.0) = fits_signed_from_abs w64 ((pos 0 -ℤ far.result.0) -ℤ own.result.0) (omega (arith, ints, far.ensures.small, own.ensures.small)) in
    let far_is = (simp to_z-of_z at (far.ensures.value (own.ensures.overflow none))) ∙ ap (λ z. near z PICO) (simp to_z-of_z at c.wide_product.ensures.value) in
    let own_is = (simp to_z-of_z at (own.ensures.value none)) ∙ ap (λ z. near z PICO) (simp to_z-of_z at c.wide_product-2.ensures.value) in
    simp to_z-of_z (omega (arith, ints, far_is, own_is))

pub returns-clause-small : goal.returns-clause-small
returns-clause-small c =
    let far = c.overflowing_near_pico-far in
    let own = c.overflowing_near_pico-near in
    let a : FitsSigned w64 far.result.0 = fits_signed_from_abs w64 far.result.0 (omega (arith, far.ensures.small)) in
    let b : FitsSigned w64 own.result.0 = fits_signed_from_abs w64 own.result.0 (omega (arith, own.ensures.small)) in
    let turned : FitsSigned w64 (pos 0 -ℤ far.result.0) = fits_signed_from_abs w64 (pos 0 -ℤ far.result.0) (omega (arith, ints, far.ensures.small)) in
    let sum : FitsSigned w64 ((pos 0 -ℤ far.result.0) -ℤ own.result.0) = fits_signed_from_abs w64 ((pos 0 -ℤ far.result.0) -ℤ own.result.0) (omega (arith, ints, far.ensures.small, own.ensures.small)) in
    simp to_z-of_z (omega (arith, ints, far.ensures.small, own.ensures.small))
