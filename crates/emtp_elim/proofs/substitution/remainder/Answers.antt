use Rattle.std.proofs.Common.{◌≡◌, ◌^◌, ◌*ℤ◌, pos, length, slice_index, slice_index, to_z, of_z, arith}
use mir.Syntax.{w128}
use Rattle.std.proofs.lemmas.Int.{ints}
use Rattle.emtp_fix.proofs.Wide.{through, abs-mul-le}
use Rattle.emtp_elim.specs.Matrix.{item}
use Rattle.emtp_elim.proofs.KeptRows.{entry_small}
use Rattle.emtp_elim.proofs.Remainders.{remainder_start, remainder_read}
use Rattle.emtp_elim.proofs.substitution.remainder.Goals as goal

pub loop-e-init : goal.loop-e-init
loop-e-init c =
    let right = item c.args.x.now c.args.k in
    let small = c.requires.small c.args.k in
    let from_is : to_z w128 (of_z w128 c.from-left.result) ≡ right = omega (arith, ints, small) in
    let product : to_z w128 (of_z w128 (right *ℤ pos (10 ^ 12))) ≡ right *ℤ pos (10 ^ 12) =
    through (right *ℤ pos (10 ^ 12)) (omega (arith, abs-mul-le right (pos (10 ^ 12)) (10 ^ 18) (10 ^ 12) small (omega arith))) in
    rw (from_is, product) (remainder_start right c.args.k (length c.args.x.now) _ c.args.x.now _ _ _ _ c.requires.row.later small)

pub overflow_sub-left : goal.overflow_sub-left
overflow_sub-left c =
    let e = c.loop-e.e in
    let row = c.requires.row in
    let small_entry = entry_small e row (omega arith) c.loop-e-test.true in
    let small_x = c.requires.small (slice_index c.args.row.columns.now e) in
    rw c.loop-e.left-is (remainder_read (to_z w128 (of_z w128 c.from.result)) (to_z w128 (of_z w128 c.from-in-loop-e.result)) row (rw c.loop-e.left-is at c.loop-e.invariant) c.requires.few c.loop-e.auto.e c.loop-e-test.true small_x (omega (arith, ints, small_entry)) (omega (arith, ints, small_x))).0

pub loop-e-preserved : goal.loop-e-preserved
loop-e-preserved c =
    let e = c.loop-e.e in
    let row = c.requires.row in
    let small_entry = entry_small e row (omega arith) c.loop-e-test.true in
    let small_x = c.requires.small (slice_index c.args.row.columns.now e) in
    rw c.loop-e.left-is (remainder_read (to_z w128 (of_z w128 c.from.result)) (to_z w128 (of_z w128 c.from-in-loop-e.result)) row (rw c.loop-e.left-is at c.loop-e.invariant) c.requires.few c.loop-e.auto.e c.loop-e-test.true small_x (omega (arith, ints, small_entry)) (omega (arith, ints, small_x))).1
