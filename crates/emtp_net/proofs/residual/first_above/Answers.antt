use Rattle.std.proofs.Common.{◌≡◌, ◌∙◌, ap, arith, FitsSigned, inl, inr, pos, rules, unsigned_abs}
use mir.Syntax.{w64, w128}
use Rattle.std.proofs.lemmas.Bool.{cases_lt}
use Rattle.std.proofs.lemmas.Int.{ints, to_z-of_z}
use Rattle.std.proofs.lemmas.List.{get_or_default}
use Rattle.emtp_case.specs.declared.row_kind.RowKind.TheVariants.{Ground, Kcl}
use Rattle.emtp_elim.specs.Matrix.{item}
use Rattle.emtp_net.specs.held.Judging.{magnitude_at, magnitude_in}
use Rattle.emtp_net.proofs.residual.first_above.Goals as goal

pub returns-then-residual-tolerance : goal.returns-then-residual-tolerance
returns-then-residual-tolerance c =
    let kinds = c.args.kinds.now in
    let sums = c.args.sums.now in
    let row = c.loop-row.row in
    let sum : FitsSigned w128 (item sums row) = search rules in
    let wide : FitsSigned w128 c.residual-residual.result = search rules in
    let limit : FitsSigned w64 c.args.tolerance = c.ranges.tolerance in
    let limit' : FitsSigned w128 c.args.tolerance = search rules in
    let value = simp to_z-of_z at c.residual-residual.ensures.value in
    let is : c.residual-residual.result ≡ pos (magnitude_at kinds sums row) = value ∙ ap (λ k. pos (magnitude_in (item sums row) k)) (get_or_default kinds row Kcl Ground (omega (arith, c.loop-row-test.true, c.requires.each))) in
    let more = simp to_z-of_z at c.if-residual-tolerance.true in
    record {
      within = c.loop-row-test.true;
      is = to_z-of_z w128 c.residual-residual.result wide ∙ is;
      above = omega (arith, ints, is, more, c.requires.tolerance);
      earlier = λ j below. omega (arith, ap unsigned_abs (to_z-of_z w64 c.args.tolerance limit), c.loop-row.invariant j below);
    }

pub loop-row-preserved : goal.loop-row-preserved
loop-row-preserved c = λ j below.
    let kinds = c.args.kinds.now in
    let sums = c.args.sums.now in
    let row = c.loop-row.row in
    let sum : FitsSigned w128 (item sums row) = search rules in
    let limit : FitsSigned w64 c.args.tolerance = c.ranges.tolerance in
    let limit' : FitsSigned w128 c.args.tolerance = search rules in
    let wide : FitsSigned w128 c.residual-residual.result = search rules in
    let value = simp to_z-of_z at c.residual-residual.ensures.value in
    let is : c.residual-residual.result ≡ pos (magnitude_at kinds sums row) = value ∙ ap (λ k. pos (magnitude_in (item sums row) k)) (get_or_default kinds row Kcl Ground (omega (arith, c.loop-row-test.true, c.requires.each))) in
    let most = simp to_z-of_z at c.if-residual-tolerance.false in
    let same = to_z-of_z w64 c.args.tolerance limit in
    elim (cases_lt j row) [
      | inl earlier ↦ c.loop-row.invariant j earlier
      | inr later ↦
          let here : j ≡ row = omega (arith, later, below) in
          rw here (omega (arith, ints, is, most, same, c.requires.tolerance))
    ]
