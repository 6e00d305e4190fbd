-- The node of a voltage source has its value.
use Rattle.std.proofs.Common.{◌≡◌, ◌∙◌, ◌+◌, ◌<◌, ◌≤◌, ℕ, zero, suc, pos, Bool, true, if◌then◌else◌, List, [], ◌∷◌, length, slice_index_or, Some, option_map, unwrap_or, Ok, refl, ap, sym, subst, inl, inr, arith}
use Rattle.std.specs.List.{count_by, find}
use Rattle.std.proofs.lemmas.Bool.{cases_Bool, cond-false, cond-true, eq-eqb, ltb-true}
use Rattle.std.proofs.lemmas.List.{get_or_default}
use Rattle.std.proofs.lemmas.List.Folds.{list_any-from_Any}
use Rattle.std.proofs.lemmas.List.Sums.{sum_by-cons}
use Rattle.emtp_case.proofs.NodeOrder.{length-order_of, order_of-IsRowOrder}
use Rattle.emtp_case.proofs.RowTables.{node_there}
use Rattle.emtp_case.specs.held.Case.{IsCase}
use Rattle.emtp_case.specs.RowOrder.{has_source, order_of}
use Rattle.emtp_case.specs.Source.{is_voltage_source_at}
use Rattle.emtp_case.specs.StepRecord.{StepRecord}
use Rattle.emtp_case.specs.declared.case.Parts.{Parts}
use Rattle.emtp_case.specs.declared.row_kind.RowKind.TheVariants.{Source as SourceRow}
use Rattle.emtp_case.specs.declared.source.Source.{Source}
use Rattle.emtp_elim.specs.Elimination.{solution}
use Rattle.emtp_elim.specs.Matrix.{item}
use Rattle.emtp_machine.proofs.Chains.{chain}
use Rattle.emtp_machine.specs.Laws.{records_upto}
use Rattle.emtp_machine.specs.held.Laws.{IsChain}
use Rattle.emtp_machine.specs.Next.{next}
use Rattle.emtp_net.specs.Part.{NetworkPart, voltages_of}
use Rattle.emtp_net.specs.held.Part.{network_of}
use Rattle.emtp_net.specs.held.Stages.{IsUntied}
use Rattle.emtp_net.specs.Step.{network_part}
use Rattle.emtp_net.specs.System.{kinds_of, matrix, nodal, right, right_by, source_value, voltage_of}
use Rattle.emtp_rows.proofs.NodalRows.{source_row}
use Rattle.emtp_case.proofs.RowsOfNodes.{row_at_is}
use Rattle.emtp_rows.specs.Nodal.{kind_at, node_at}
use Rattle.emtp_rows.specs.held.Touched.{row_at}
use Rattle.emtp_switch.proofs.Plans.{once_each, switch_ends}
use Rattle.emtp_switch.proofs.RowKinds.{by_source, root_is_source}
use Rattle.emtp_switch.specs.held.Groups.{EndWithin}
use Rattle.emtp_switch.specs.Kinds.{kind_by}
use Rattle.emtp_switch.specs.States.{next_states}
use Rattle.emtp_laws.specs.Nodes.{AreSourcesKept, KeepSources, root_next}
use Rattle.emtp_laws.proofs.Counting.{one_more, passes_counted}
use Rattle.emtp_laws.proofs.GroupVoltages.{empty_next, kind_is, right_at, right_size, single_next, size, square, voltage_there}
use Rattle.emtp_laws.proofs.SolvedSteps.{next_made, step_solved}
use Rattle.emtp_elim.proofs.UnitRows.{unit_solved}

-- ---- the one source of a node

found_one : (p : Source → Bool) (ss : List Source) (j : ℕ) (d s : Source) → j < length ss → slice_index_or ss j d ≡ s → p s ≡ true → count_by p ss ≤ 1 → find p ss ≡ Some s
found_one p [] j d s inside at on few = absurd (omega (arith, inside))
found_one p (x ∷ ss) zero d s inside at on few = cond-true (p x) (Some x) (find p ss) (ap p at ∙ on) ∙ ap Some at
found_one p (x ∷ ss) (suc j) d s inside at on few = elim (cases_Bool (p x)) [
  | inl here ↦
      let count = sum_by-cons (λ y. if p y then 1 else 0) x ss in
      absurd (omega (arith, count, one_more (p x) here, passes_counted p ss j d s (omega (arith, inside)) at on, few))
  | inr off ↦
      cond-false (p x) (Some x) (find p ss) off
      ∙ found_one p ss j d s (omega (arith, inside)) at on (omega (arith, sum_by-cons (λ y. if p y then 1 else 0) x ss, few))
]

-- ---- its row

-- where no known voltages are tied, the node of a voltage source is the root of its group
own_root : (case : Parts) (H : List StepRecord) (i : ℕ) → IsCase case → IsUntied case H → i < (order_of case).fixed → i < length case.nodes → root_next case H (node_at case i) ≡ node_at case i
own_root case H i fits free early inside =
    let size = length-order_of case in
    root_is_source case (order_of case) (next_states case H) i (order_of-IsRowOrder case) (subst (λ n. EndWithin case.switches (n + 1)) (sym size) (switch_ends case fits)) free early (omega (arith, inside, size))

known_value : (case : Parts) (H : List StepRecord) (m : ℕ) → IsCase case → IsUntied case H → 1 ≤ m → m ≤ length case.nodes → has_source case m ≡ true → item (voltages_of case (solution (matrix case H) (right case H))) m ≡ voltage_of case H m
known_value case H m fits free low high source =
    let n = length-order_of case in
    let order = order_of-IsRowOrder case in
    let (i, below, at) = node_there (order_of case).nodes (once_each case (order_of case) order) m low (omega (arith, high, n)) in
    let inside : i < length case.nodes = omega (arith, below, n) in
    let early : i < (order_of case).fixed = ltb-true i (order_of case).fixed (sym (order.sources_first i below) ∙ ap (has_source case) at ∙ source) in
    let root : root_next case H (node_at case i) ≡ node_at case i = own_root case H i fits free early inside in
    let row : row_at case (node_at case i) ≡ i = row_at_is case (node_at case i) i inside refl in
    let kind : kind_at (kinds_of case H) i ≡ SourceRow =
    kind_is case H i inside
    ∙ ap (λ k. kind_by (order_of case) (node_at case i) k (empty_next case H (node_at case i)) (single_next case H (node_at case i))) root
    ∙ by_source (order_of case) (node_at case i) (empty_next case H (node_at case i)) (single_next case H (node_at case i)) (λ e. omega (arith, e, at, low)) (omega (arith, row, early)) in
    voltage_there case (solution (matrix case H) (right case H)) m low high
    ∙ ap (item (solution (matrix case H) (right case H))) (row_at_is case m i inside at)
    ∙ unit_solved (matrix case H) (right case H) i (square case H) (right_size case H) (omega (arith, inside, size case H)) (source_row (nodal case H) i inside kind)
    ∙ right_at case H i inside
    ∙ ap (right_by case H i) kind
    ∙ ap (voltage_of case H) at

-- ---- the law

pub sources_kept : (case : Parts) (H : List StepRecord) (part : NetworkPart) → IsCase case → network_part case H ≡ Ok part → KeepSources case H part.voltages
sources_kept case H part fits made = λ k d inside voltage.
    let s = slice_index_or case.sources k d in
    let is = step_solved case H part made in
    let fine = fits.draft.network.sources k d inside in
    let on : is_voltage_source_at s.node s ≡ true = rw (voltage, eq-eqb s.node s.node refl) refl in
    let has : has_source case s.node ≡ true = list_any-from_Any (is_voltage_source_at s.node) case.sources (k, s, inside, refl_at case.sources k d s inside refl, on) in
    ap (λ vs. item vs s.node) is.voltages
    ∙ known_value case H s.node fits is.free fine.above_ground fine.there has
    ∙ ap (λ o. unwrap_or (option_map (source_value case H) o) (pos 0)) (found_one (is_voltage_source_at s.node) case.sources k d s inside refl on (fits.draft.network.one_voltage s.node))
  where
    refl_at : (ss : List Source) (k : ℕ) (d s : Source) → k < length ss → slice_index_or ss k d ≡ s → slice_index_or ss k s ≡ s
    refl_at ss k d s inside at = get_or_default ss k s d inside ∙ at

next_kept : (case : Parts) (H : List StepRecord) (r : StepRecord) → IsCase case → next case H ≡ Ok r → KeepSources case H r.voltages
next_kept case H r fits is =
    let from = next_made case H r is in
    let keeps : KeepSources case H (network_of r).voltages = subst (λ (p : NetworkPart). KeepSources case H p.voltages) (sym from.is) (sources_kept case H from.part fits from.made) in
    keeps

all_kept : (case : Parts) (H : List StepRecord) → IsCase case → IsChain case H → AreSourcesKept case H
all_kept case [] fits is = tt
all_kept case (r ∷ []) fits is = tt
all_kept case (r ∷ s ∷ past) fits is = next_kept case (s ∷ past) r fits is.0

pub run_kept : (case : Parts) (n : ℕ) → IsCase case → AreSourcesKept case (records_upto case n)
run_kept case n fits = all_kept case (records_upto case n) fits (chain case n)
