use Rattle.emtp_fix.specs.declared.limit.TheConstants.{LARGEST_VALUE}
use Rattle.std.proofs.Common.{◌≡◌, ◌≤◌, ◌-◌, ◌∙◌, ◌+◌, ◌<ℤ◌, ◌∷◌, [], ap, arith, drop, false, FitsSigned, get_or, length, ℕ, ℤ, List, of_z, refl, rules, slice_index_or, subst, suc, sym, to_z, true, unsigned_abs}
use mir.Syntax.{w64, w128}
use Rattle.std.proofs.lemmas.Int.{to_z-of_z}
use Rattle.std.proofs.lemmas.List.{drop_all}
use Rattle.std.proofs.lemmas.List.Elements.{All-get_or}
use Rattle.std.proofs.Math.Seq.{drop-cons}
use Rattle.std.specs.Prelude.{int_le, int_lt}
use Rattle.emtp_case.specs.Branch.{origin}
use Rattle.emtp_case.specs.declared.branch.Point.{Point}
use Rattle.emtp_devices.specs.Device.{along, table_value}
use Rattle.emtp_fix.proofs.Wide.{through, through_64}
use Rattle.emtp_devices.proofs.table.table_value.Goals as goal

pub returns-then-s-points-2 : goal.returns-then-s-points-2
returns-then-s-points-2 c =
    let s : FitsSigned w64 c.args.s = c.ranges.s in
    let r : FitsSigned w128 c.between_points.result = search rules in
    let is = simp to_z-of_z at c.between_points.ensures in
    let before = simp to_z-of_z at c.loop-at.invariant.value in
    let cons = drop-cons c.args.points.now c.loop-at.at origin c.loop-at-test.true in
    let here : int_le c.args.s (get_or c.args.points.now c.loop-at.at origin).current ≡ true = search rules in
    to_z-of_z w128 c.between_points.result r ∙ (rw here is) ∙ sym (before ∙ ap (along c.args.s (slice_index_or c.args.points.now (c.loop-at.at - 1) origin)) cons)

pub returns : goal.returns
returns c =
    let points = c.args.points.now in
    let last = slice_index_or points (length points - 1) origin in
    let s : FitsSigned w64 c.args.s = c.ranges.s in
    let small : unsigned_abs last.other ≤ LARGEST_VALUE = All-get_or (λ (p : Point). unsigned_abs p.other ≤ LARGEST_VALUE) points (length points - 1) origin (omega (arith, c.requires.table.some)) c.requires.table.outputs in
    let over : c.loop-at.at ≡ length points = omega (arith, c.requires.table.some, c.loop-at.auto.at-end, c.loop-at-test.false) in
    let none : drop c.loop-at.at points ≡ [] = drop_all c.loop-at.at points c.loop-at-test.false in
    let before : table_value c.args.s points ≡ along c.args.s (slice_index_or points (c.loop-at.at - 1) origin) (drop c.loop-at.at points) = simp to_z-of_z at c.loop-at.invariant.value in
    let ends : table_value c.args.s points ≡ last.other = before ∙ ap (along c.args.s (slice_index_or points (c.loop-at.at - 1) origin)) none ∙ ap (λ (n : ℕ). (slice_index_or points (n - 1) origin).other) over in
    let narrow : to_z w64 (of_z w64 last.other) ≡ last.other = through_64 last.other (omega (arith, small)) in
    rw narrow (through last.other (omega (arith, small)) ∙ sym ends)

-- an input that is not before the first point lies along the lines from it on
begins : (s : ℤ) (points : List Point) → 1 ≤ length points → int_lt s (get_or points 0 origin).current ≡ false → table_value s points ≡ along s (get_or points 0 origin) (drop 1 points)
begins s [] some later = absurd (omega (arith, some))
begins s (p ∷ points) some later = rw later refl

pub loop-at-init : goal.loop-at-init
loop-at-init c =
    let points = c.args.points.now in
    let s = to_z w64 (of_z w64 c.args.s) in
    let later : int_lt s (get_or points 0 origin).current ≡ false = search rules in
    record { some = omega arith; value = begins s points (omega (arith, c.requires.table.some)) later }

pub loop-at-preserved : goal.loop-at-preserved
loop-at-preserved c =
    let points = c.args.points.now in
    let at = c.loop-at.at in
    let s = to_z w64 (of_z w64 c.args.s) in
    let later : int_le s (get_or points at origin).current ≡ false = search rules in
    let passed : along s (slice_index_or points (at - 1) origin) (get_or points at origin ∷ drop (at + 1) points) ≡ along s (get_or points at origin) (drop (at + 1) points) = rw later refl in
    let same : at ≡ at + 1 - 1 = omega arith in
    let next : suc at ≡ at + 1 = omega arith in
    record {
      some = omega arith;
      value = c.loop-at.invariant.value ∙ ap (along s (slice_index_or points (at - 1) origin)) (drop-cons points at origin c.loop-at-test.true ∙ ap (λ k. get_or points at origin ∷ drop k points) next) ∙ passed ∙ ap (λ k. along s (slice_index_or points k origin) (drop (at + 1) points)) same;
    }

pub between_points-requires-clause-p : goal.between_points-requires-clause-p
between_points-requires-clause-p c = c.requires.table.inputs (c.loop-at.at - 1) origin (omega (arith, c.loop-at-test.true))

pub between_points-requires-clause-q : goal.between_points-requires-clause-q
between_points-requires-clause-q c = c.requires.table.inputs c.loop-at.at origin c.loop-at-test.true

pub between_points-requires-clause-p_other : goal.between_points-requires-clause-p_other
between_points-requires-clause-p_other c = c.requires.table.outputs (c.loop-at.at - 1) origin (omega (arith, c.loop-at-test.true))

pub between_points-requires-clause-q_other : goal.between_points-requires-clause-q_other
between_points-requires-clause-q_other c = c.requires.table.outputs c.loop-at.at origin c.loop-at-test.true

pub between_points-requires-clause-rising : goal.between_points-requires-clause-rising
between_points-requires-clause-rising c =
    let points = c.args.points.now in
    let at = c.loop-at.at in
    let next : at - 1 + 1 ≡ at = omega (arith, c.loop-at.invariant.some) in
    subst (λ k. (slice_index_or points (at - 1) origin).current <ℤ (slice_index_or points k origin).current) next (c.requires.table.rising (at - 1) (omega (arith, next, c.loop-at-test.true)))
