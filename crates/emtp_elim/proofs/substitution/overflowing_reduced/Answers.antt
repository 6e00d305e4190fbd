use Rattle.std.proofs.Common.{◌≡◌, ◌∙◌, ◌+◌, ◌-◌, ◌<◌, ◌≤◌, ◌^◌, ◌-ℤ◌, ◌*ℤ◌, pos, refl, slice_index, unsigned_abs, to_z, of_z, arith}
use mir.Syntax.{w64, w128}
use Rattle.std.proofs.lemmas.Int.{ints, to_z-of_z}
use Rattle.std.proofs.lemmas.Nat.{le_or_l, le_or_r}
use Rattle.emtp_fix.proofs.Wide.{through_64, fits_between}
use Rattle.emtp_fix.specs.Rounding.{near}
use Rattle.emtp_fix.specs.declared.limit.TheConstants.{PICO}
use Rattle.emtp_elim.specs.Matrix.{item}
use Rattle.emtp_elim.proofs.Entries.{at_end}
use Rattle.emtp_elim.proofs.RightSides.{partial_start, partial_next, partial_more}
use Rattle.emtp_elim.proofs.substitution.overflowing_reduced.Goals as goal

pub loop-e-init : goal.loop-e-init
loop-e-init c = λ none small.
    let same = to_z-of_z w128 c.args.start c.ranges.start in
    let start_is : pos c.lift-lifted.result.0 -ℤ pos (2 ^ 59) ≡ c.args.start = omega (arith, ints, c.lift-lifted.ensures none) in
    (small, rw (same, start_is) (partial_start c.args.start _ c.args.above.now c.args.i _ _ _ _ c.requires.row.ratios (omega (arith, ints, start_is))))

pub ratio_product-product-requires-clause-word : goal.ratio_product-product-requires-clause-word
ratio_product-product-requires-clause-word c =
    let have = c.requires.words.words c.requires.has_words in
    let word = item c.args.row.ratio_words.now (c.args.row.words_from + (c.loop-e.e - c.args.row.first)) in
    let small = have.small c.loop-e.e c.loop-e.auto.e c.loop-e-test.true in
    let is = have.word_is c.loop-e.e c.loop-e.auto.e c.loop-e-test.true in
    let word_fits = fits_between word (omega (arith, ints, small, is.low small, is.high small)) (omega (arith, ints, small, is.low small, is.high small)) in
    rw (through_64 (item c.args.row.values.now c.loop-e.e) (omega (arith, small)), to_z-of_z w64 word word_fits) is

pub loop-e-preserved : goal.loop-e-preserved
loop-e-preserved c = λ none small.
    let e = c.loop-e.e in
    let row = c.requires.row in
    let was = c.loop-e.invariant none (omega (arith, small, le_or_l)) in
    let high = row.ratios.high e c.loop-e.auto.e c.loop-e-test.true in
    let m = item c.args.row.values.now e in
    let m_is = through_64 m (omega (arith, (c.requires.words.words c.requires.has_words).small e c.loop-e.auto.e c.loop-e-test.true)) in
    let x = item c.args.above.now (slice_index c.args.row.columns.now e) in
    let x_is = through_64 x (c.requires.before (slice_index c.args.row.columns.now e) high) in
    let p_is = rw (m_is, x_is) at c.ratio_product-product.ensures.value in
    let low : c.lessened-lifted.result < 2 ^ 60 = omega (arith, small, le_or_r) in
    let less = c.lessened-lifted.ensures was.0 low in
    let before = pos c.loop-e.lifted -ℤ pos (2 ^ 59) in
    let v = pos c.lessened-lifted.result -ℤ pos (2 ^ 59) in
    let v_less : v ≡ before -ℤ near (m *ℤ x) PICO = omega (arith, ints, p_is, less) in
    let next = partial_next _ _ c.args.above.now c.args.i _ _ _ e _ before m x v row.ratios was.1 c.loop-e.auto.e c.loop-e-test.true refl refl v_less in
    (low, partial_more _ _ c.args.above.now c.args.i _ _ _ e _ before v row.ratios was.1 c.loop-e.auto.e c.loop-e-test.true next (omega (arith, ints, low)))

pub returns-clause-value : goal.returns-clause-value
returns-clause-value c = λ none.
    let same = to_z-of_z w128 c.args.start c.ranges.start in
    let all : c.loop-e.e ≡ c.args.row.pivot = omega (arith, c.requires.row.ratios.order) in
    let small : c.loop-e.seen < 2 ^ 60 = omega (arith, none, le_or_r) in
    let was = rw (all, same) at (c.loop-e.invariant (omega (arith, none, le_or_l)) small) in
    let lowered : to_z w64 (of_z w64 c.lowered.result) ≡ pos c.loop-e.lifted -ℤ pos (2 ^ 59) = omega (arith, ints, c.lowered.ensures was.0, was.0) in
    lowered ∙ was.1.value_is c.args.i (omega arith) (at_end _ _ _ _ _ _ _ c.requires.row.ratios)

pub returns-clause-within : goal.returns-clause-within
returns-clause-within c = λ none k low.
    let same = to_z-of_z w128 c.args.start c.ranges.start in
    let all : c.loop-e.e ≡ c.args.row.pivot = omega (arith, c.requires.row.ratios.order) in
    let small : c.loop-e.seen < 2 ^ 60 = omega (arith, none, le_or_r) in
    let was = rw (all, same) at (c.loop-e.invariant (omega (arith, none, le_or_l)) small) in
    was.1.within k c.args.i low (omega arith) (at_end _ _ _ _ _ _ _ c.requires.row.ratios)
