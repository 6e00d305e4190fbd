use Rattle.std.proofs.Common.{◌≡◌, ◌∙◌, ◌≤◌, ◌^◌, ◌*◌, ap, ℤ, pos, ◌-ℤ◌, slice_index_or, unsigned_abs, to_z, of_z, FitsSigned, rules, arith}
use mir.Syntax.{w64, w128}
use Rattle.std.proofs.lemmas.Int.{ints, clamps, to_z-of_z}
use Rattle.emtp_fix.proofs.Wide.{narrow_is}
use Rattle.emtp_machine.specs.Channels.{within_range}
use Rattle.emtp_machine.proofs.channels.voltage_between.Goals as goal

small : (x : ℤ) → unsigned_abs (within_range x) ≤ 4 * 10 ^ 18
small x = omega (arith, ints, clamps)

-- the difference of two kept numbers in 128 bits
difference : (x y a b : ℤ) → FitsSigned w64 x → FitsSigned w64 y → a ≡ to_z w64 (of_z w64 x) → b ≡ to_z w64 (of_z w64 y)
    → to_z w128 (of_z w128 (to_z w128 (of_z w128 a) -ℤ to_z w128 (of_z w128 b))) ≡ x -ℤ y
difference x y a b first second is_a is_b =
    let through_a : a ≡ x = is_a ∙ to_z-of_z w64 x first in
    let through_b : b ≡ y = is_b ∙ to_z-of_z w64 y second in
    rw (through_a, through_b) (omega (arith, ints, first, second))

pub returns : goal.returns
returns c =
    let a = slice_index_or c.args.voltages.now c.args.from (pos 0) in
    let b = slice_index_or c.args.voltages.now c.args.to (pos 0) in
    let first : FitsSigned w64 a = search rules in
    let second : FitsSigned w64 b = search rules in
    let wide = difference a b c.from.result c.from-2.result first second c.from.ensures c.from-2.ensures in
    narrow_is c.clamp.result (within_range (a -ℤ b)) (c.clamp.ensures.value ∙ ap within_range wide) (small (a -ℤ b))
