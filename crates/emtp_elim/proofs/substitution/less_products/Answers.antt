use Rattle.emtp_fix.specs.declared.limit.TheConstants.{LARGEST_VALUE}
use Rattle.std.proofs.Common.{rules, ◌≡◌, ◌≤◌, suc, refl, slice_index, unsigned_abs, FitsSigned, to_z, of_z, arith}
use mir.Syntax.{w128}
use Rattle.std.proofs.lemmas.Int.{ints, to_z-of_z}
use Rattle.emtp_fix.proofs.Wide.{narrow_is, through_64}
use Rattle.emtp_elim.specs.Matrix.{item}
use Rattle.emtp_elim.proofs.Entries.{at_end}
use Rattle.emtp_elim.proofs.RightSides.{partial_start, partial_next, partial_more}
use Rattle.emtp_elim.proofs.substitution.less_products.Goals as goal

pub loop-e-init : goal.loop-e-init
loop-e-init c =
    let start = c.args.start in
    let same = to_z-of_z w128 start c.ranges.start in
    let small_wide : unsigned_abs (to_z w128 (of_z w128 start)) ≤ LARGEST_VALUE = omega (arith, ints) in
    let small : unsigned_abs start ≤ LARGEST_VALUE = rw same at small_wide in
    rw (narrow_is start start refl (omega (arith, small)), same) (partial_start start _ c.args.above.now c.args.i _ _ _ _ c.requires.row.ratios small)

pub returns-in-None-clause-out : goal.returns-in-None-clause-out
returns-in-None-clause-out c =
    let same = to_z-of_z w128 c.args.start c.ranges.start in
    let e = c.loop-e.e in
    let row = c.requires.row in
    let high = row.ratios.high e c.loop-e.auto.e c.loop-e-test.true in
    let small_ratio = rw (← row.ratios.value_is e c.loop-e.auto.e c.loop-e-test.true) at (row.finished.ratios _ high) in
    let above = item c.args.above.now (slice_index c.args.row.columns.now e) in
    let was = rw (c.loop-e.value-is, same) at c.loop-e.invariant in
    let next = partial_next _ _ c.args.above.now c.args.i _ _ _ e _ c.loop-e.value _ _ _ row.ratios was
    c.loop-e.auto.e c.loop-e-test.true (through_64 _ (omega (arith, small_ratio))) (through_64 above (c.requires.before _ high)) refl in
    (suc (slice_index c.args.row.columns.now e), high, rw next at (rw c.loop-e.value-is at c.in-None.ensures.out))

pub loop-e-preserved : goal.loop-e-preserved
loop-e-preserved c =
    let e = c.loop-e.e in
    let row = c.requires.row in
    let was = rw c.loop-e.value-is at c.loop-e.invariant in
    let high = row.ratios.high e c.loop-e.auto.e c.loop-e-test.true in
    let small_ratio = rw (← row.ratios.value_is e c.loop-e.auto.e c.loop-e-test.true) at (row.finished.ratios _ high) in
    let above = item c.args.above.now (slice_index c.args.row.columns.now e) in
    let next = partial_next _ _ c.args.above.now c.args.i _ _ _ e _ c.loop-e.value _ _ c.in-Some.less row.ratios was
    c.loop-e.auto.e c.loop-e-test.true (through_64 _ (omega (arith, small_ratio))) (through_64 above (c.requires.before _ high)) (rw c.loop-e.value-is at c.in-Some.ensures.value) in
    let same = through_64 c.in-Some.less c.in-Some.ensures.within in
    rw same (partial_more _ _ c.args.above.now c.args.i _ _ _ e _ c.loop-e.value c.in-Some.less row.ratios was c.loop-e.auto.e c.loop-e-test.true next c.in-Some.ensures.within)

pub returns-clause-within : goal.returns-clause-within
returns-clause-within c = λ k low.
    let same = to_z-of_z w128 c.args.start c.ranges.start in
    let all : c.loop-e.e ≡ c.args.row.pivot = omega (arith, c.requires.row.ratios.order) in
    let was = rw (all, same) at c.loop-e.invariant in
    was.within k c.args.i low (omega arith) (at_end _ _ _ _ _ _ _ c.requires.row.ratios)
