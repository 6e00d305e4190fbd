use Rattle.std.proofs.Common.{◌≡◌, ◌∙◌, ◌<◌, ◌≤◌, ◌^◌, ◌==◌, arith, ℕ, ℤ, [], length, pos, ◌+ℤ◌, unsigned_abs, slice_index_or, subst, inl, inr}
use Rattle.std.proofs.lemmas.Bool.{cases_Bool}
use Rattle.std.proofs.lemmas.Grind.{common_steps}
use Rattle.std.proofs.lemmas.Int.{ints}
use Rattle.std.proofs.lemmas.List.{get_or_default}
use Rattle.emtp_case.specs.declared.row_kind.RowKind.TheVariants.{Ground, Kcl, Sum, Tie}
use Rattle.emtp_elim.specs.Matrix.{item}
use Rattle.emtp_rows.proofs.Filled.{tie_set, unit_set}
use Rattle.emtp_case.specs.held.RowKinds.{TieIsThere}
use Rattle.emtp_rows.specs.Nodal.{kind_at, unit}
use Rattle.emtp_rows.proofs.fill.fill_row.Goals as goal

nothing : (x : ℤ) → pos 0 +ℤ x ≡ x
nothing x = omega (arith, ints)

unit_small : (i j : ℕ) → unsigned_abs (unit i j) ≤ 10 ^ 31
unit_small i j = elim (cases_Bool (i == j)) [
  | inl here ↦ rw here (omega (arith, ints))
  | inr off ↦ rw off (omega (arith, ints))
]

pub returns-in-Tie : goal.returns-in-Tie
returns-in-Tie c = λ j below.
    let i = c.args.i in
    let size : length c.fill.new.self ≡ length c.args.out.now = c.fill.ensures.len in
    let zeros : (k : ℕ) → k < length c.fill.new.self → item c.fill.new.self k ≡ pos 0 = grind (arith, common_steps) in
    let kind : kind_at c.args.kinds.now i ≡ Tie c.in-Tie.row = get_or_default c.args.kinds.now i Ground Kcl (omega (arith, c.requires.row, c.requires.kinds)) ∙ c.in-Tie.is in
    let inside : i < length c.fill.new.self = omega (arith, size, c.requires.out, c.requires.row) in
    let there : c.in-Tie.row < length c.args.rows.now = subst (TieIsThere (length c.args.rows.now)) c.in-Tie.is (c.requires.ties i Kcl (omega (arith, c.requires.row, c.requires.kinds))) in
    let same : length c.add_to.new.out ≡ length c.fill.new.self = c.add_to.auto.out in
    let own : (k : ℕ) → k < length c.add_to.new.out → item c.add_to.new.out k ≡ unit i k
    = λ k within. rw c.add_to.ensures (unit_set c.fill.new.self i k inside (omega (arith, same, within)) zeros) in
    rw (kind, c.add_to-in-Tie.ensures) (tie_set c.add_to.new.out i c.in-Tie.row j (omega (arith, there, same, size, c.requires.out)) (omega (arith, below, same, size)) own)

pub add_group-requires-clause-own : goal.add_group-requires-clause-own
add_group-requires-clause-own c = c.requires.own

pub add_group-requires-clause-coupling : goal.add_group-requires-clause-coupling
add_group-requires-clause-coupling c = c.requires.coupling

pub add_terms-requires-clause-own : goal.add_terms-requires-clause-own
add_terms-requires-clause-own c = c.requires.own

pub add_terms-requires-clause-coupling : goal.add_terms-requires-clause-coupling
add_terms-requires-clause-coupling c = c.requires.coupling

pub add_group-requires-clause-few : goal.add_group-requires-clause-few
add_group-requires-clause-few c = c.requires.few

pub add_group-requires-clause-kinds : goal.add_group-requires-clause-kinds
add_group-requires-clause-kinds c = c.requires.kinds

pub add_group-requires-clause-terms : goal.add_group-requires-clause-terms
add_group-requires-clause-terms c = c.requires.terms

pub add_group-requires-clause-out : goal.add_group-requires-clause-out
add_group-requires-clause-out c = c.fill.ensures.len ∙ c.requires.out

pub returns-in-Kcl : goal.returns-in-Kcl
returns-in-Kcl c = λ j below.
    let size : length c.fill.new.self ≡ length c.args.out.now = c.fill.ensures.len in
    let zeros : (k : ℕ) → k < length c.fill.new.self → item c.fill.new.self k ≡ pos 0 = grind (arith, common_steps) in
    let kind : kind_at c.args.kinds.now c.args.i ≡ Kcl = get_or_default c.args.kinds.now c.args.i Ground Kcl (omega (arith, c.requires.row, c.requires.kinds)) ∙ c.in-Kcl.is in
    let read : c.as_slice.result.now ≡ slice_index_or c.args.rows.now c.args.i [] = c.as_slice.ensures ∙ c.index-rows-i.is ∙ get_or_default c.args.rows.now c.args.i c.index-rows-i.result [] c.requires.row in
    let inside : j < length c.fill.new.self = omega (arith, below, size) in
    rw (kind, c.add_terms.ensures j inside, zeros j inside, read) (nothing _)

pub returns-in-Sum : goal.returns-in-Sum
returns-in-Sum c = λ j below.
    let size : length c.fill.new.self ≡ length c.args.out.now = c.fill.ensures.len in
    let kind : kind_at c.args.kinds.now c.args.i ≡ Sum = get_or_default c.args.kinds.now c.args.i Ground Kcl (omega (arith, c.requires.row, c.requires.kinds)) ∙ c.in-Sum.is in
    let inside : j < length c.fill.new.self = omega (arith, below, size) in
    rw kind (c.add_group.ensures j inside)

pub returns-in-Ground : goal.returns-in-Ground
returns-in-Ground c = λ j below.
    let size : length c.fill.new.self ≡ length c.args.out.now = c.fill.ensures.len in
    let zeros : (k : ℕ) → k < length c.fill.new.self → item c.fill.new.self k ≡ pos 0 = grind (arith, common_steps) in
    let inside : j < length c.fill.new.self = omega (arith, below, size) in
    let at = get_or_default c.args.kinds.now c.args.i Ground Kcl (omega (arith, c.requires.row, c.requires.kinds)) in
    let entry = unit_set c.fill.new.self c.args.i j (omega (arith, size, c.requires.out, c.requires.row)) inside zeros in
    elim c.in-Ground.is [
      | inl is ↦ rw (at ∙ is, c.add_to-in-Ground.ensures) entry
      | inr is ↦ rw (at ∙ is, c.add_to-in-Ground.ensures) entry
    ]

pub add_to-requires-in-Tie-clause-entry : goal.add_to-requires-in-Tie-clause-entry
add_to-requires-in-Tie-clause-entry c =
    let size : length c.fill.new.self ≡ length c.args.out.now = c.fill.ensures.len in
    let zeros : (k : ℕ) → k < length c.fill.new.self → item c.fill.new.self k ≡ pos 0 = grind (arith, common_steps) in
    let there : c.in-Tie.row < length c.args.rows.now = subst (TieIsThere (length c.args.rows.now)) c.in-Tie.is (c.requires.ties c.args.i Kcl (omega (arith, c.requires.row, c.requires.kinds))) in
    let entry = unit_set c.fill.new.self c.args.i c.in-Tie.row (omega (arith, size, c.requires.out, c.requires.row)) (omega (arith, size, c.requires.out, there)) zeros in
    rw (c.add_to.ensures, entry) (unit_small c.args.i c.in-Tie.row)

pub add_group-requires-clause-zeros : goal.add_group-requires-clause-zeros
add_group-requires-clause-zeros c = grind (arith, common_steps)

pub add_terms-requires-clause-out : goal.add_terms-requires-clause-out
add_terms-requires-clause-out c = λ j inside.
    let zeros : (k : ℕ) → k < length c.fill.new.self → item c.fill.new.self k ≡ pos 0 = grind (arith, common_steps) in
    omega (arith, ints, zeros j inside)

pub add_terms-requires-clause-few : goal.add_terms-requires-clause-few
add_terms-requires-clause-few c =
    let read : c.as_slice.result.now ≡ slice_index_or c.args.rows.now c.args.i [] = c.as_slice.ensures ∙ c.index-rows-i.is ∙ get_or_default c.args.rows.now c.args.i c.index-rows-i.result [] c.requires.row in
    rw read (c.requires.terms c.args.i c.requires.row).0

pub add_terms-requires-clause-terms : goal.add_terms-requires-clause-terms
add_terms-requires-clause-terms c =
    let read : c.as_slice.result.now ≡ slice_index_or c.args.rows.now c.args.i [] = c.as_slice.ensures ∙ c.index-rows-i.is ∙ get_or_default c.args.rows.now c.args.i c.index-rows-i.result [] c.requires.row in
    rw (read, c.fill.ensures.len ∙ c.requires.out) (c.requires.terms c.args.i c.requires.row).1
