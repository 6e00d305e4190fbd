use Rattle.std.proofs.Common.{◌≢◌, ◌+◌, ◌-◌, ◌<◌, ◌*◌, ◌^◌, unsigned_abs, inl, inr, FitsSigned, rules, arith}
use mir.Syntax.{w64}
use Rattle.std.proofs.lemmas.Bool.{cases_eq}
use Rattle.std.proofs.lemmas.Int.{to_z-of_z}
use Rattle.std.proofs.lemmas.List.{get_or-set_same, get_or-set_other}
use Rattle.emtp_fix.specs.held.Ratio.{IsRatioWord}
use Rattle.emtp_elim.specs.Matrix.{item}
use Rattle.emtp_elim.proofs.row_words.put_ratio_words.Goals as goal

pub loop-e-preserved : goal.loop-e-preserved
loop-e-preserved c =
    let e = c.loop-e.e in
    let place = c.args.from + (e - c.args.first) in
    let was = c.loop-e.invariant in
    let ratio = item c.args.values.now e in
    let value : FitsSigned w64 ratio = search rules in
    let word : FitsSigned w64 c.ratio_word.result = search rules in
    let magnitude = simp to_z-of_z at c.unsigned_abs.ensures.value in
    let small : unsigned_abs ratio < 2 * 10 ^ 12 = omega (arith, magnitude, c.if-unsigned_abs.false) in
    let is : IsRatioWord ratio c.ratio_word.result = simp to_z-of_z at c.ratio_word.ensures in
    let same = to_z-of_z w64 c.ratio_word.result word in
    rw same (
      record {
        small = λ d low high. elim (cases_eq d e) [ inl here ↦ rw here small | inr other ↦ was.0.small d low (omega arith) ];
        word_is = λ d low high. elim (cases_eq d e) [
          | inl here ↦ rw (here, get_or-set_same c.loop-e.words place c.ratio_word.result _ (omega arith)) is
          | inr other ↦ let apart : c.args.from + (d - c.args.first) ≢ place = omega arith in rw get_or-set_other (was.0.word_is d low (omega arith))
        ];
      },
      λ w before. let apart : w ≢ place = omega arith in rw get_or-set_other (was.1 w before),
    )
