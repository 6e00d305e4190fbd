use Rattle.std.proofs.Common.{◌≡◌, ◌∙◌, ◌<◌, ◌≤◌, ◌+◌, ◌*◌, ◌/◌, ◌%◌, ◌^◌, ◌==◌, ◌+ℤ◌, ap, arith, ℕ, ℤ, length, length-set, pos, unsigned_abs, subst, inl, inr}
use Rattle.std.proofs.lemmas.Bool.{cases_Bool}
use Rattle.std.proofs.lemmas.Int.{ints}
use Rattle.std.proofs.lemmas.List.{get_or_default}
use Rattle.emtp_case.specs.declared.row_kind.RowKind.TheVariants.{Ground, Kcl, Sum, Tie}
use Rattle.emtp_case.specs.held.RowKinds.{TieIsThere}
use Rattle.emtp_elim.specs.Matrix.{item}
use Rattle.emtp_case.specs.NodeRows.{kind_at, unit}
use Rattle.emtp_rows.proofs.Filled.{tie_set, unit_set}
use Rattle.emtp_phasor.proofs.fill.fill_row.Goals as goal

nothing : (x : ℤ) → pos 0 +ℤ x ≡ x
nothing x = omega (arith, ints)

unit_small : (i j : ℕ) → unsigned_abs (unit i j) ≤ 10 ^ 31
unit_small i j = elim (cases_Bool (i == j)) [
  | inl here ↦ rw here (omega (arith, ints))
  | inr off ↦ rw off (omega (arith, ints))
]

pub bounds : goal.bounds
bounds c = omega (arith, c.requires.row, c.requires.network.kinds_count)

pub add_node-requires-clause-row : goal.add_node-requires-clause-row
add_node-requires-clause-row c = omega (arith, c.requires.row)

pub add_node-requires-clause-out : goal.add_node-requires-clause-out
add_node-requires-clause-out c = c.requires.clear.length_is

pub add_node-requires-clause-bound : goal.add_node-requires-clause-bound
add_node-requires-clause-bound c = λ j below. omega (arith, ints, c.requires.clear.zeros j)

pub add_group-requires-clause-row : goal.add_group-requires-clause-row
add_group-requires-clause-row c = omega (arith, c.requires.row)

pub add_group-requires-clause-out : goal.add_group-requires-clause-out
add_group-requires-clause-out c = c.requires.clear.length_is

pub add_group-requires-clause-bound : goal.add_group-requires-clause-bound
add_group-requires-clause-bound c = λ j below. omega (arith, ints, c.requires.clear.zeros j)

pub add_to-requires-clause-place : goal.add_to-requires-clause-place
add_to-requires-clause-place c = omega (arith, c.requires.clear.length_is, c.requires.row)

pub add_to-requires-clause-number : goal.add_to-requires-clause-number
add_to-requires-clause-number c = omega (arith, ints, c.requires.clear.zeros c.args.row)

pub add_to-requires-in-Tie-clause-place : goal.add_to-requires-in-Tie-clause-place
add_to-requires-in-Tie-clause-place c =
    let half : c.args.row / 2 < length c.args.network.kinds.now = omega (arith, c.requires.row, c.requires.network.kinds_count) in
    let there : c.in-Tie.other < length c.args.network.case.now.parts.nodes = subst (TieIsThere (length c.args.network.case.now.parts.nodes)) c.in-Tie.is (c.requires.network.ties (c.args.row / 2) Kcl half) in
    omega (arith, there, ap length c.add_to.ensures, length-set {A = ℤ}, c.requires.clear.length_is)

pub add_to-requires-in-Tie-clause-number : goal.add_to-requires-in-Tie-clause-number
add_to-requires-in-Tie-clause-number c =
    let r = c.args.row in
    let out = c.args.out.now in
    let size = c.requires.clear.length_is in
    let zeros : (k : ℕ) → k < length out → item out k ≡ pos 0 = λ k within. c.requires.clear.zeros k in
    let half : r / 2 < length c.args.network.kinds.now = omega (arith, c.requires.row, c.requires.network.kinds_count) in
    let there : c.in-Tie.other < length c.args.network.case.now.parts.nodes = subst (TieIsThere (length c.args.network.case.now.parts.nodes)) c.in-Tie.is (c.requires.network.ties (r / 2) Kcl half) in
    let entry = unit_set out r (2 * c.in-Tie.other + r % 2) (omega (arith, size, c.requires.row)) (omega (arith, size, there)) zeros in
    rw (c.add_to.ensures, entry) (unit_small r (2 * c.in-Tie.other + r % 2))

pub add_to-requires-in-Ground-clause-place : goal.add_to-requires-in-Ground-clause-place
add_to-requires-in-Ground-clause-place c = omega (arith, c.requires.clear.length_is, c.requires.row)

pub add_to-requires-in-Ground-clause-number : goal.add_to-requires-in-Ground-clause-number
add_to-requires-in-Ground-clause-number c = omega (arith, ints, c.requires.clear.zeros c.args.row)

pub returns-in-Kcl-clause-same : goal.returns-in-Kcl-clause-same
returns-in-Kcl-clause-same c = c.add_node.ensures.same

pub returns-in-Kcl-clause-value : goal.returns-in-Kcl-clause-value
returns-in-Kcl-clause-value c = λ j below.
    let half : c.args.row / 2 < length c.args.network.kinds.now = omega (arith, c.requires.row, c.requires.network.kinds_count) in
    let kind : kind_at c.args.network.kinds.now (c.args.row / 2) ≡ Kcl = get_or_default c.args.network.kinds.now (c.args.row / 2) Ground Kcl half ∙ c.in-Kcl.is in
    rw (kind, c.add_node.ensures.value j below, c.requires.clear.zeros j) (nothing _)

pub returns-in-Sum-clause-same : goal.returns-in-Sum-clause-same
returns-in-Sum-clause-same c = c.add_group.ensures.same

pub returns-in-Sum-clause-value : goal.returns-in-Sum-clause-value
returns-in-Sum-clause-value c = λ j below.
    let half : c.args.row / 2 < length c.args.network.kinds.now = omega (arith, c.requires.row, c.requires.network.kinds_count) in
    let kind : kind_at c.args.network.kinds.now (c.args.row / 2) ≡ Sum = get_or_default c.args.network.kinds.now (c.args.row / 2) Ground Kcl half ∙ c.in-Sum.is in
    rw (kind, c.add_group.ensures.value j below, c.requires.clear.zeros j) (nothing _)

pub returns-in-Tie-clause-same : goal.returns-in-Tie-clause-same
returns-in-Tie-clause-same c = omega (arith, ap length c.add_to.ensures, ap length c.add_to-in-Tie.ensures, length-set {A = ℤ})

pub returns-in-Tie-clause-value : goal.returns-in-Tie-clause-value
returns-in-Tie-clause-value c = λ j below.
    let r = c.args.row in
    let out = c.args.out.now in
    let size = c.requires.clear.length_is in
    let zeros : (k : ℕ) → k < length out → item out k ≡ pos 0 = λ k within. c.requires.clear.zeros k in
    let half : r / 2 < length c.args.network.kinds.now = omega (arith, c.requires.row, c.requires.network.kinds_count) in
    let kind : kind_at c.args.network.kinds.now (r / 2) ≡ Tie c.in-Tie.other = get_or_default c.args.network.kinds.now (r / 2) Ground Kcl half ∙ c.in-Tie.is in
    let inside : r < length out = omega (arith, size, c.requires.row) in
    let there : c.in-Tie.other < length c.args.network.case.now.parts.nodes = subst (TieIsThere (length c.args.network.case.now.parts.nodes)) c.in-Tie.is (c.requires.network.ties (r / 2) Kcl half) in
    let same : length c.add_to.new.self ≡ length out = omega (arith, ap length c.add_to.ensures, length-set {A = ℤ}) in
    let own : (k : ℕ) → k < length c.add_to.new.self → item c.add_to.new.self k ≡ unit r k
    = λ k within. rw c.add_to.ensures (unit_set out r k inside (omega (arith, same, within)) zeros) in
    rw (kind, c.add_to-in-Tie.ensures) (tie_set c.add_to.new.self r (2 * c.in-Tie.other + r % 2) j (omega (arith, there, same, size)) (omega (arith, below, same)) own)

pub returns-in-Ground-clause-same : goal.returns-in-Ground-clause-same
returns-in-Ground-clause-same c = omega (arith, ap length c.add_to-in-Ground.ensures, length-set {A = ℤ})

pub returns-in-Ground-clause-value : goal.returns-in-Ground-clause-value
returns-in-Ground-clause-value c = λ j below.
    let r = c.args.row in
    let out = c.args.out.now in
    let size = c.requires.clear.length_is in
    let zeros : (k : ℕ) → k < length out → item out k ≡ pos 0 = λ k within. c.requires.clear.zeros k in
    let half : r / 2 < length c.args.network.kinds.now = omega (arith, c.requires.row, c.requires.network.kinds_count) in
    let at = get_or_default c.args.network.kinds.now (r / 2) Ground Kcl half in
    let entry = unit_set out r j (omega (arith, size, c.requires.row)) below zeros in
    elim c.in-Ground.is [
      | inl is ↦ rw (at ∙ is, c.add_to-in-Ground.ensures) entry
      | inr is ↦ rw (at ∙ is, c.add_to-in-Ground.ensures) entry
    ]
