-- The voltage of a node is that of its group.
use Rattle.std.proofs.Common.{◌≡◌, ◌≢◌, ◌∙◌, ◌<◌, ◌≤◌, ◌==◌, ℕ, zero, suc, ℤ, pos, if◌then◌else◌, nat_lt, Bool, true, false, List, length, slice_index, refl, ap, sym, inl, inr, arith}
use Rattle.std.proofs.lemmas.Bool.{cases_lt, eq-eqb, eqb-true, true≢false}
use Rattle.std.proofs.lemmas.List.{get_or-map}
use Rattle.std.proofs.lemmas.List.FromFn.{get_or-map-range_with_len, length-map-range_with_len}
use Rattle.emtp_case.proofs.NodeOrder.{length-order_of, order_of-IsRowOrder}
use Rattle.emtp_case.proofs.RowTables.{node_there}
use Rattle.emtp_case.specs.RowOrder.{order_of}
use Rattle.emtp_case.specs.StepRecord.{StepRecord}
use Rattle.emtp_case.specs.declared.case.Parts.{Parts}
use Rattle.emtp_case.specs.declared.row_kind.RowKind.{RowKind}
use Rattle.emtp_case.specs.declared.row_kind.RowKind.TheVariants.{Kcl, Sum, Tie, Ground, Source as SourceRow}
use Rattle.emtp_elim.specs.Elimination.{solution}
use Rattle.emtp_elim.specs.Matrix.{item}
use Rattle.emtp_elim.specs.held.Matrix.{IsSquare}
use Rattle.emtp_net.specs.Part.{voltages_of}
use Rattle.emtp_net.specs.System.{kinds_of, matrix, nodal, right, right_by}
use Rattle.emtp_rows.proofs.NodalRows.{ground_row, length-nodal_matrix, length-nodal_row, source_row, tie_row}
use Rattle.emtp_case.proofs.RowsOfNodes.{fixed_within, row_at_is}
use Rattle.emtp_rows.specs.Nodal.{kind_at, node_at}
use Rattle.emtp_rows.specs.held.Touched.{row_at}
use Rattle.emtp_switch.proofs.Plans.{once_each}
use Rattle.emtp_switch.proofs.RowKinds.{by_source}
use Rattle.emtp_laws.specs.Nodes.{labels_next, root_next}
use Rattle.emtp_switch.proofs.Sides.{root_of_ground, root_same}
use Rattle.emtp_switch.specs.Kinds.{count_members, is_empty, kind_by, kind_of}
use Rattle.emtp_switch.proofs.RootPlaces.{root_place}
use Rattle.emtp_elim.proofs.UnitRows.{earlier_tie, later_tie, unit_solved}

-- ---- the system

pub size : (case : Parts) (H : List StepRecord) → length (matrix case H) ≡ length case.nodes
size case H = length-nodal_matrix (nodal case H)

pub square : (case : Parts) (H : List StepRecord) → IsSquare (matrix case H)
square case H = λ i h. length-nodal_row (nodal case H) i (omega (arith, h, size case H)) ∙ sym (size case H)

pub right_size : (case : Parts) (H : List StepRecord) → length (right case H) ≡ length (matrix case H)
unfolding right
right_size case H = length-map-range_with_len _ 0 (length case.nodes) ∙ sym (size case H)

pub right_at : (case : Parts) (H : List StepRecord) (i : ℕ) → i < length case.nodes → item (right case H) i ≡ right_by case H i (kind_at (kinds_of case H) i)
unfolding right
right_at case H i inside = get_or-map-range_with_len _ 0 (length case.nodes) i i (pos 0) inside (omega arith)

-- ---- the kind of a row

abbrev pub empty_next : Parts → List StepRecord → ℕ → Bool
empty_next case H m = is_empty case (order_of case) (labels_next case H) (slice_index (labels_next case H) m)

abbrev pub single_next : Parts → List StepRecord → ℕ → Bool
single_next case H m = count_members (order_of case).nodes (labels_next case H) (slice_index (labels_next case H) m) == 1

pub kind_is : (case : Parts) (H : List StepRecord) (i : ℕ) → i < length case.nodes → kind_at (kinds_of case H) i ≡ kind_by (order_of case) (node_at case i) (root_next case H (node_at case i)) (empty_next case H (node_at case i)) (single_next case H (node_at case i))
kind_is case H i inside = get_or-map (kind_of case (order_of case) (labels_next case H)) (order_of case).nodes i 0 Ground (omega (arith, inside, length-order_of case))

-- ---- the unknown of a row

-- a tie of the row of a node to that of its root
tied_value : (case : Parts) (H : List StepRecord) (i : ℕ) → i < length case.nodes → root_next case H (node_at case i) ≢ 0 → node_at case i ≢ root_next case H (node_at case i)
    → kind_at (kinds_of case H) i ≡ Tie (row_at case (root_next case H (node_at case i)))
    → item (solution (matrix case H) (right case H)) i ≡ item (solution (matrix case H) (right case H)) (row_at case (root_next case H (node_at case i)))
tied_value case H i inside some apart is =
    let rows = order_of case in
    let n = length-order_of case in
    let m = node_at case i in
    let root = root_next case H m in
    let place = root_place rows (labels_next case H) i (omega (arith, fixed_within case, n)) (omega (arith, inside, n)) some in
    let there : place.row < length case.nodes = omega (arith, place.inside, n) in
    let r = row_at case root in
    let row_is : r ≡ place.row = row_at_is case root place.row there place.there in
    let within : r < length case.nodes = omega (arith, row_is, there) in
    let at_r : node_at case r ≡ root = ap (node_at case) row_is ∙ place.there in
    let ne : r ≢ i = λ e. apart (sym (ap (node_at case) e) ∙ at_r) in
    let tie = tie_row (nodal case H) i r inside within ne is in
    let none : item (right case H) i ≡ pos 0 = right_at case H i inside ∙ ap (right_by case H i) is in
    elim (cases_lt r rows.fixed) [
      | inl known ↦
          let before : r < i = omega (arith, ne, row_is, known, place.known (omega (arith, known, row_is))) in
          let same : root_next case H (node_at case r) ≡ root = ap (root_next case H) at_r ∙ root_same rows (labels_next case H) root m place.together in
          let kind : kind_at (kinds_of case H) r ≡ SourceRow =
          kind_is case H r within
          ∙ ap (λ k. kind_by rows (node_at case r) k (empty_next case H (node_at case r)) (single_next case H (node_at case r))) same
          ∙ ap (λ k. kind_by rows k root (empty_next case H (node_at case r)) (single_next case H (node_at case r))) at_r
          ∙ by_source rows root (empty_next case H (node_at case r)) (single_next case H (node_at case r)) some known in
          earlier_tie (matrix case H) (right case H) i r (square case H) (right_size case H) (omega (arith, inside, size case H)) before (source_row (nodal case H) r within kind) tie none
      | inr other ↦
          let after : i < r = omega (arith, ne, row_is, other, place.unknown (omega (arith, other, row_is))) in
          later_tie (matrix case H) (right case H) i r (square case H) (right_size case H) (omega (arith, inside, size case H)) after (omega (arith, within, size case H)) tie none
    ]

-- the voltage of a group, by its root and whether it is empty
abbrev value_by : Parts → List StepRecord → ℕ → Bool → ℤ
value_by case H root empty =
    if root == 0 then pos 0
    else if nat_lt (row_at case root) (order_of case).fixed then item (solution (matrix case H) (right case H)) (row_at case root)
    else if empty then pos 0
    else item (solution (matrix case H) (right case H)) (row_at case root)

by_kind : (ground known own empty single : Bool) (x y : ℤ) (k : RowKind) (r : ℕ) → k ≡ (if ground then Ground else if known then (if own then SourceRow else Tie r) else if empty then Ground else if own then (if single then Kcl else Sum) else Tie r)
    → (k ≡ Ground → x ≡ pos 0) → (own ≡ true → x ≡ y) → (ground ≡ false → own ≡ false → k ≡ Tie r → x ≡ y) → x ≡ (if ground then pos 0 else if known then y else if empty then pos 0 else y)
by_kind true known own empty single x y k r is g o t = g is
by_kind false true true empty single x y k r is g o t = o refl
by_kind false true false empty single x y k r is g o t = t refl refl is
by_kind false false own true single x y k r is g o t = g is
by_kind false false true false single x y k r is g o t = o refl
by_kind false false false false single x y k r is g o t = t refl refl is

row_value : (case : Parts) (H : List StepRecord) (i : ℕ) → i < length case.nodes → item (solution (matrix case H) (right case H)) i ≡ value_by case H (root_next case H (node_at case i)) (empty_next case H (node_at case i))
row_value case H i inside =
    let rows = order_of case in
    let m = node_at case i in
    let root = root_next case H m in
    let x = solution (matrix case H) (right case H) in
    by_kind (root == 0) (nat_lt (row_at case root) rows.fixed) (m == root) (empty_next case H m) (single_next case H m) (item x i) (item x (row_at case root)) (kind_at (kinds_of case H) i) (row_at case root) (kind_is case H i inside)
    (λ ground. unit_solved (matrix case H) (right case H) i (square case H) (right_size case H) (omega (arith, inside, size case H)) (ground_row (nodal case H) i inside ground) ∙ right_at case H i inside ∙ ap (right_by case H i) ground)
    (λ own. ap (item x) (sym (row_at_is case m i inside refl) ∙ ap (row_at case) (eqb-true m root own)))
    (λ some own is. tied_value case H i inside (unequal root 0 some) (unequal m root own) is)
  where
    unequal : (a b : ℕ) → (a == b) ≡ false → a ≢ b
    unequal a b off = λ e. true≢false (sym (eq-eqb a b e) ∙ off)

-- ---- the voltage of a node

pub voltage_there : (case : Parts) (x : List ℤ) (m : ℕ) → 1 ≤ m → m ≤ length case.nodes → item (voltages_of case x) m ≡ item x (row_at case m)
unfolding voltages_of
voltage_there case x zero low high = absurd (omega (arith, low))
voltage_there case x (suc k) low high = get_or-map-range_with_len (λ n. item x (row_at case n)) 1 (length case.nodes) k (suc k) (pos 0) (omega (arith, high)) (omega arith)

pub voltage_ground : (case : Parts) (x : List ℤ) → item (voltages_of case x) 0 ≡ pos 0
unfolding voltages_of
voltage_ground case x = refl

pub node_value : (case : Parts) (H : List StepRecord) (m : ℕ) → m ≤ length case.nodes → item (voltages_of case (solution (matrix case H) (right case H))) m ≡ value_by case H (root_next case H m) (empty_next case H m)
node_value case H zero high =
    voltage_ground case (solution (matrix case H) (right case H))
    ∙ sym (ap (λ r. value_by case H r (empty_next case H 0)) (root_of_ground (order_of case) (labels_next case H)))
node_value case H (suc k) high =
    let n = length-order_of case in
    let low : 1 ≤ suc k = omega arith in
    let (i, below, at) = node_there (order_of case).nodes (once_each case (order_of case) (order_of-IsRowOrder case)) (suc k) low (omega (arith, high, n)) in
    let inside : i < length case.nodes = omega (arith, below, n) in
    voltage_there case (solution (matrix case H) (right case H)) (suc k) low high
    ∙ ap (item (solution (matrix case H) (right case H))) (row_at_is case (suc k) i inside at)
    ∙ row_value case H i inside
    ∙ ap (λ m. value_by case H (root_next case H m) (empty_next case H m)) at

-- two nodes of one group have one voltage
pub one_voltage : (case : Parts) (H : List StepRecord) (a b : ℕ) → a ≤ length case.nodes → b ≤ length case.nodes → slice_index (labels_next case H) a ≡ slice_index (labels_next case H) b
    → item (voltages_of case (solution (matrix case H) (right case H))) a ≡ item (voltages_of case (solution (matrix case H) (right case H))) b
one_voltage case H a b in_a in_b same =
    node_value case H a in_a
    ∙ ap (λ r. value_by case H r (empty_next case H a)) (root_same (order_of case) (labels_next case H) a b same)
    ∙ ap (λ l. value_by case H (root_next case H b) (is_empty case (order_of case) (labels_next case H) l)) same
    ∙ sym (node_value case H b in_b)
