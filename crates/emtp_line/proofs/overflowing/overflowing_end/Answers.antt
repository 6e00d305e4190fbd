use Rattle.std.proofs.Common.{◌≡◌, ◌∙◌, ap, refl, ℤ, Some, FitsSigned, arith, rules}
use mir.Syntax.{w64, w128}
use Rattle.std.proofs.lemmas.Int.{ints, to_z-of_z, fits_signed_from_abs}
use Rattle.emtp_fix.specs.Limit.{in_range}
use Rattle.emtp_fix.specs.Rounding.{near}
use Rattle.emtp_fix.specs.declared.limit.TheConstants.{PICO}
use Rattle.emtp_line.specs.Wave.{current_of, wave_of, end_of}
use Rattle.emtp_line.specs.declared.mode.Mode.{Mode}
use Rattle.emtp_line.proofs.overflowing.overflowing_end.Goals as goal

ended : (m : Mode) (h v i w : ℤ) → in_range (current_of m h v) ≡ Some i → in_range (wave_of m v i) ≡ Some w → end_of m h v ≡ Some (i, w)
unfolding end_of
ended m h v i w p q = rw (p, q) refl

pub returns-clause-value : goal.returns-clause-value
returns-clause-value c = λ none.
    let o2 = c.overflowing_pico_sum-wave.ensures.overflow none in
    let o1 = c.overflowing_sum-current.ensures.overflow o2 in
    let m = c.args.mode.now in
    let g : FitsSigned w64 m.conductance = search rules in
    let a : FitsSigned w64 m.attenuation = search rules in
    let v : FitsSigned w64 c.args.v = c.ranges.v in
    let h : FitsSigned w128 c.args.history = c.ranges.history in
    let whole : FitsSigned w128 c.wide_product.result = fits_signed_from_abs w128 c.wide_product.result (omega (arith, c.wide_product.ensures.small)) in
    let product = simp to_z-of_z at c.wide_product.ensures.value in
    let d : FitsSigned w64 c.overflowing_near_pico-driven.result.0 = fits_signed_from_abs w64 c.overflowing_near_pico-driven.result.0 (omega (arith, c.overflowing_near_pico-driven.ensures.small)) in
    let i : FitsSigned w64 c.overflowing_sum-current.result.0 = fits_signed_from_abs w64 c.overflowing_sum-current.result.0 (omega (arith, c.overflowing_sum-current.ensures.within o2)) in
    let w : FitsSigned w64 c.overflowing_pico_sum-wave.result.0 = fits_signed_from_abs w64 c.overflowing_pico_sum-wave.result.0 (omega (arith, c.overflowing_pico_sum-wave.ensures.within none)) in
    let driven = (simp to_z-of_z at (c.overflowing_near_pico-driven.ensures.value o1)) ∙ ap (λ x. near x PICO) product in
    let i_is = simp to_z-of_z at (c.overflowing_sum-current.ensures.value o2) in
    let w_is = simp to_z-of_z at (c.overflowing_pico_sum-wave.ensures.value none) in
    simp to_z-of_z (ended m c.args.history c.args.v c.overflowing_sum-current.result.0 c.overflowing_pico_sum-wave.result.0 (rw driven at i_is) (rw driven at w_is))

pub returns-clause-within : goal.returns-clause-within
returns-clause-within c = λ none.
    let o2 = c.overflowing_pico_sum-wave.ensures.overflow none in
    omega (arith, ints, c.overflowing_sum-current.ensures.within o2)

pub returns-clause-overflow : goal.returns-clause-overflow
returns-clause-overflow c = λ none.
    let o2 = c.overflowing_pico_sum-wave.ensures.overflow none in
    let o1 = c.overflowing_sum-current.ensures.overflow o2 in
    c.overflowing_near_pico-driven.ensures.overflow o1
