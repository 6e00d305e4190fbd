use Rattle.std.proofs.Common.{◌*◌, ◌^◌, ◌≤◌, ◌∙◌, ap, ◌+ℤ◌, ◌-ℤ◌, pos, unsigned_abs, FitsSigned, arith, rules}
use mir.Syntax.{w64, w128}
use Rattle.std.proofs.lemmas.Int.{ints, to_z-of_z, fits_signed_from_abs}
use Rattle.emtp_fix.specs.Rounding.{near}
use Rattle.emtp_fix.specs.declared.limit.TheConstants.{PICO}
use Rattle.emtp_lumped.proofs.Reached.{capacitive_next}
use Rattle.emtp_lumped.proofs.overflowing.overflowing_capacitive.Goals as goal

pub returns : goal.returns
returns c = record {
  value = λ none.
      let o3 = c.overflowing_near_pico-history_current.ensures.overflow none in
      let o2 = c.overflowing_micro_sum-history_voltage.ensures.overflow o3 in
      let o1 = c.overflowing_micro_sum-v_c.ensures.overflow o2 in
      let v : FitsSigned w64 c.args.v = c.ranges.v in
      let history : FitsSigned w64 c.args.history = c.ranges.history in
      let g : FitsSigned w64 c.args.companion.now.conductance = search rules in
      let z : FitsSigned w64 c.args.companion.now.capacitor = search rules in
      let z_turned : FitsSigned w64 (pos 0 -ℤ c.args.companion.now.capacitor) = search rules in
      let old_i : FitsSigned w64 c.args.old.now.current = search rules in
      let old_v : FitsSigned w64 c.args.old.now.v_l = search rules in
      let old_c : FitsSigned w64 c.args.old.now.v_c = search rules in
      let turned : FitsSigned w64 (pos 0 -ℤ c.args.old.now.v_l) = search rules in
      let i : FitsSigned w64 c.overflowing_pico_sum-current.result.0 = fits_signed_from_abs w64 c.overflowing_pico_sum-current.result.0 (omega (arith, c.overflowing_pico_sum-current.ensures.within o1)) in
      let v_c : FitsSigned w64 c.overflowing_micro_sum-v_c.result.0 = fits_signed_from_abs w64 c.overflowing_micro_sum-v_c.result.0 (omega (arith, c.overflowing_micro_sum-v_c.ensures.within o2)) in
      let dv : FitsSigned w64 ((pos 0 -ℤ c.args.old.now.v_l) -ℤ c.overflowing_micro_sum-v_c.result.0) = fits_signed_from_abs w64 ((pos 0 -ℤ c.args.old.now.v_l) -ℤ c.overflowing_micro_sum-v_c.result.0) (omega (arith, ints, c.overflowing_micro_sum-v_c.ensures.within o2, c.requires.old.inductor)) in
      let si : FitsSigned w64 (c.overflowing_pico_sum-current.result.0 +ℤ c.args.old.now.current) = fits_signed_from_abs w64 (c.overflowing_pico_sum-current.result.0 +ℤ c.args.old.now.current) (omega (arith, ints, c.overflowing_pico_sum-current.ensures.within o1, c.requires.old.current)) in
      let e : FitsSigned w64 c.overflowing_micro_sum-history_voltage.result.0 = fits_signed_from_abs w64 c.overflowing_micro_sum-history_voltage.result.0 (omega (arith, c.overflowing_micro_sum-history_voltage.ensures.within o3)) in
      let i_is = simp to_z-of_z at (c.overflowing_pico_sum-current.ensures.value o1) in
      let v_c_is = simp to_z-of_z at (c.overflowing_micro_sum-v_c.ensures.value o2) in
      let e_is = simp to_z-of_z at (c.overflowing_micro_sum-history_voltage.ensures.value o3) in
      let kept = c.requires.history.is (omega (arith, ints, simp to_z-of_z at c.overflowing_pico_sum-current.ensures.back, c.overflowing_pico_sum-current.ensures.within o1)) in
      simp to_z-of_z (capacitive_next c.args.companion.now c.args.old.now c.args.history c.args.v c.overflowing_pico_sum-current.result.0 c.overflowing_micro_sum-v_c.result.0 c.overflowing_micro_sum-history_voltage.result.0 c.requires.none c.requires.old.inductor kept i_is v_c_is e_is);
  range = λ none.
      let o3 = c.overflowing_near_pico-history_current.ensures.overflow none in
      let o2 = c.overflowing_micro_sum-history_voltage.ensures.overflow o3 in
      let o1 = c.overflowing_micro_sum-v_c.ensures.overflow o2 in
      let old_v : FitsSigned w64 c.args.old.now.v_l = search rules in
      let turned : FitsSigned w64 (pos 0 -ℤ c.args.old.now.v_l) = search rules in
      record {
        current = omega (arith, ints, c.overflowing_pico_sum-current.ensures.within o1);
        inductor = simp to_z-of_z (omega (arith, ints, c.requires.old.inductor));
        capacitor = omega (arith, ints, c.overflowing_micro_sum-v_c.ensures.within o2);
        history = omega (arith, ints, c.overflowing_micro_sum-history_voltage.ensures.within o3);
      };
  history = λ none.
      let o3 = c.overflowing_near_pico-history_current.ensures.overflow none in
      let g : FitsSigned w64 c.args.companion.now.conductance = search rules in
      let e : FitsSigned w64 c.overflowing_micro_sum-history_voltage.result.0 = fits_signed_from_abs w64 c.overflowing_micro_sum-history_voltage.result.0 (omega (arith, c.overflowing_micro_sum-history_voltage.ensures.within o3)) in
      let whole : FitsSigned w128 c.wide_product.result = fits_signed_from_abs w128 c.wide_product.result (omega (arith, c.wide_product.ensures.small)) in
      let product = simp to_z-of_z at c.wide_product.ensures.value in
      let j : FitsSigned w64 c.overflowing_near_pico-history_current.result.0 = fits_signed_from_abs w64 c.overflowing_near_pico-history_current.result.0 (omega (arith, c.overflowing_near_pico-history_current.ensures.small)) in
      simp to_z-of_z ((simp to_z-of_z at (c.overflowing_near_pico-history_current.ensures.value none)) ∙ ap (λ x. near x PICO) product);
  small = let small = c.overflowing_near_pico-history_current.ensures.small in
      let j : FitsSigned w64 c.overflowing_near_pico-history_current.result.0 = fits_signed_from_abs w64 c.overflowing_near_pico-history_current.result.0 (omega (arith, small)) in
      simp to_z-of_z small;
  overflow = λ none.
      let o3 = c.overflowing_near_pico-history_current.ensures.overflow none in
      let o2 = c.overflowing_micro_sum-history_voltage.ensures.overflow o3 in
      let o1 = c.overflowing_micro_sum-v_c.ensures.overflow o2 in
      c.overflowing_pico_sum-current.ensures.overflow o1;
}

pub overflowing_micro_sum-history_voltage-requires : goal.overflowing_micro_sum-history_voltage-requires
overflowing_micro_sum-history_voltage-requires c =
    let old_v : FitsSigned w64 c.args.old.now.v_l = search rules in
    let turned : FitsSigned w64 (pos 0 -ℤ c.args.old.now.v_l) = search rules in
    let old_c : FitsSigned w64 c.args.old.now.v_c = search rules in
    let b = simp to_z-of_z at c.overflowing_micro_sum-v_c.ensures.small in
    let v_c : unsigned_abs c.overflowing_micro_sum-v_c.result.0 ≤ 23 * 10 ^ 17 = omega (arith, ints, b, c.requires.old.capacitor) in
    let v_c_fits : FitsSigned w64 c.overflowing_micro_sum-v_c.result.0 = fits_signed_from_abs w64 c.overflowing_micro_sum-v_c.result.0 (omega (arith, v_c)) in
    let fits : FitsSigned w64 ((pos 0 -ℤ c.args.old.now.v_l) -ℤ c.overflowing_micro_sum-v_c.result.0) = fits_signed_from_abs w64 ((pos 0 -ℤ c.args.old.now.v_l) -ℤ c.overflowing_micro_sum-v_c.result.0) (omega (arith, ints, v_c, c.requires.old.inductor)) in
    simp to_z-of_z (omega (arith, ints, v_c, c.requires.old.inductor))
