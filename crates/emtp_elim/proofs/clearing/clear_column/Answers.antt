use Rattle.emtp_fix.specs.declared.limit.TheConstants.{LARGEST_ENTRY, LARGEST_RATIO}
use Rattle.std.proofs.Common.{◌≡◌, ◌≤◌, ◌<◌, ◌∙◌, slice_index, unsigned_abs, inr, refl, to_z, of_z, arith}
use mir.Syntax.{w64, w128}
use Rattle.std.proofs.lemmas.Int.{ints, to_z-of_z}
use Rattle.emtp_fix.proofs.Wide.{narrow_is, through, through_64}
use Rattle.emtp_elim.specs.Matrix.{item}
use Rattle.emtp_elim.proofs.KeptRows.{entry_small}
use Rattle.emtp_elim.proofs.ClearedRows.{lessened_small, lessened_next, lessened_more, cleared_lessened, ratio_read}
use Rattle.emtp_elim.proofs.clearing.clear_column.Goals as goal

pub less_by_word-entry-requires-clause-a : goal.less_by_word-entry-requires-clause-a
less_by_word-entry-requires-clause-a c =
    let j = slice_index c.args.above.columns.now c.loop-e.e in
    let small : unsigned_abs (item c.loop-e.work j) ≤ LARGEST_ENTRY = lessened_small c.args.k c.requires.above.later c.loop-e.invariant c.loop-e.auto.e c.loop-e-test.true c.requires.entries in
    rw (through (item c.loop-e.work j) (omega arith)) (omega arith)

pub less_by_word-entry-requires-clause-word : goal.less_by_word-entry-requires-clause-word
less_by_word-entry-requires-clause-word c =
    let wide = to_z-of_z w128 c.ratio-m.result (omega (arith, c.ratio-m.type_inv)) in
    let small : unsigned_abs c.ratio-m.result ≤ LARGEST_RATIO = omega (arith, rw wide at c.unsigned_abs.ensures.value) in
    let m_is : to_z w64 (of_z w64 (to_z w128 (of_z w128 c.ratio-m.result))) ≡ c.ratio-m.result = narrow_is c.ratio-m.result c.ratio-m.result refl (omega (arith, small)) in
    let word_is : to_z w64 (of_z w64 c.ratio_word-word.result) ≡ c.ratio_word-word.result = to_z-of_z w64 c.ratio_word-word.result (omega (arith, c.ratio_word-word.type_inv)) in
    rw (wide, word_is) (rw m_is at c.ratio_word-word.ensures)

pub returns-then-unsigned_abs-gt-LARGEST_ENTRY-clause-out : goal.returns-then-unsigned_abs-gt-LARGEST_ENTRY-clause-out
returns-then-unsigned_abs-gt-LARGEST_ENTRY-clause-out c =
    let e = c.loop-e.e in
    let row = c.requires.above in
    let small_pivot = entry_small c.args.above.pivot row (omega arith) row.pivot_within in
    let small_value = entry_small e row (omega arith) c.loop-e-test.true in
    let m_is = ratio_read c.args.work.now c.from.result c.ratio-m.result row (c.requires.entries c.args.k (omega arith)) (c.from.ensures ∙ through_64 _ (omega (arith, small_pivot))) c.ratio-m.ensures in
    let wide = to_z-of_z w128 c.ratio-m.result (omega (arith, c.ratio-m.type_inv)) in
    let value = lessened_next c.args.k c.from-in-loop-e.result c.less_by_word-entry.result row.later (rw wide at c.loop-e.invariant) c.loop-e.auto.e c.loop-e-test.true c.requires.entries row.finished.entries
    (omega (arith, rw wide at c.unsigned_abs.ensures.value)) (c.from-in-loop-e.ensures ∙ through_64 _ (omega (arith, small_value))) c.less_by_word-entry.ensures in
    let large : LARGEST_ENTRY < unsigned_abs c.less_by_word-entry.result = omega (arith, rw (to_z-of_z w128 c.less_by_word-entry.result (omega (arith, c.less_by_word-entry.type_inv))) at c.unsigned_abs-in-loop-e.ensures.value) in
    inr (slice_index c.args.above.columns.now e, omega (arith, row.later.low e c.loop-e.auto.e c.loop-e-test.true), row.later.high e c.loop-e.auto.e c.loop-e-test.true, rw (value, m_is) at large)

pub bounds-work-column : goal.bounds-work-column
bounds-work-column c = omega (arith, c.requires.above.later.high c.loop-e.e c.loop-e.auto.e c.loop-e-test.true)

pub loop-e-preserved : goal.loop-e-preserved
loop-e-preserved c =
    let e = c.loop-e.e in
    let row = c.requires.above in
    let small_value = entry_small e row (omega arith) c.loop-e-test.true in
    let wide = to_z-of_z w128 c.ratio-m.result (omega (arith, c.ratio-m.type_inv)) in
    let was = rw wide at c.loop-e.invariant in
    let value = lessened_next c.args.k c.from-in-loop-e.result c.less_by_word-entry.result row.later was c.loop-e.auto.e c.loop-e-test.true c.requires.entries row.finished.entries
    (omega (arith, rw wide at c.unsigned_abs.ensures.value)) (c.from-in-loop-e.ensures ∙ through_64 _ (omega (arith, small_value))) c.less_by_word-entry.ensures in
    let wide_entry = to_z-of_z w128 c.less_by_word-entry.result (omega (arith, c.less_by_word-entry.type_inv)) in
    rw (wide, wide_entry) (lessened_more c.less_by_word-entry.result row.later was c.loop-e.auto.e c.loop-e-test.true (omega arith) value (omega (arith, rw wide_entry at c.unsigned_abs-in-loop-e.ensures.value)))

pub returns-clause-cleared : goal.returns-clause-cleared
returns-clause-cleared c =
    let row = c.requires.above in
    let small_pivot = entry_small c.args.above.pivot row (omega arith) row.pivot_within in
    let m_is = ratio_read c.args.work.now c.from.result c.ratio-m.result row (c.requires.entries c.args.k (omega arith)) (c.from.ensures ∙ through_64 _ (omega (arith, small_pivot))) c.ratio-m.ensures in
    let wide = to_z-of_z w128 c.ratio-m.result (omega (arith, c.ratio-m.type_inv)) in
    let all : c.loop-e.e ≡ c.args.above.last = omega (arith, row.pivot_within) in
    rw wide (cleared_lessened c.args.k row.later (rw (wide, all) at c.loop-e.invariant) c.requires.entries m_is (omega (arith, rw wide at c.unsigned_abs.ensures.value)) (omega arith))

pub ratio-m-requires-clause-a : goal.ratio-m-requires-clause-a
ratio-m-requires-clause-a c = omega (arith, ints, c.requires.entries c.args.k (omega arith))

pub ratio-m-requires-clause-p : goal.ratio-m-requires-clause-p
ratio-m-requires-clause-p c = let row = c.requires.above in omega (arith, ints, entry_small c.args.above.pivot row (omega arith) row.pivot_within)

pub less_by_word-entry-requires-clause-p : goal.less_by_word-entry-requires-clause-p
less_by_word-entry-requires-clause-p c = omega (arith, ints, entry_small c.loop-e.e c.requires.above (omega arith) c.loop-e-test.true)
