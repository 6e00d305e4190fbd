use Rattle.std.proofs.Common.{◌∙◌, ◌-ℤ◌, ◌≤◌, ◌<◌, ◌^◌, bit_or, unsigned_abs, FitsSigned, arith}
use mir.Syntax.{w64}
use Rattle.std.proofs.lemmas.Int.{ints, to_z-of_z, fits_signed_from_abs, wrapping_sub_is, int_wrap_fits}
use Rattle.std.proofs.lemmas.Nat.{le_or_l, le_or_r}
use Rattle.emtp_lumped.proofs.overflowing.overflowing_difference.Goals as goal

pub returns : goal.returns
returns c = λ none.
    let v : FitsSigned w64 c.args.v = c.ranges.v in
    let w : FitsSigned w64 c.args.w = c.ranges.w in
    let both : bit_or c.lifted.result c.lifted-2.result < 2 ^ 60 = omega (arith, none) in
    let v_small : unsigned_abs c.args.v ≤ 2 ^ 59 = simp to_z-of_z at (c.lifted.ensures (omega (arith, both, le_or_l))) in
    let w_small : unsigned_abs c.args.w ≤ 2 ^ 59 = simp to_z-of_z at (c.lifted-2.ensures (omega (arith, both, le_or_r))) in
    let difference : FitsSigned w64 (c.args.v -ℤ c.args.w) = fits_signed_from_abs w64 (c.args.v -ℤ c.args.w) (omega (arith, ints, v_small, w_small)) in
    wrapping_sub_is w64 c.args.v c.args.w v w ∙ int_wrap_fits w64 (c.args.v -ℤ c.args.w) difference
