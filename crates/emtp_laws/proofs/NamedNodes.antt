-- A step of the network that has no part names a node of the case.
use Rattle.std.proofs.Common.{◌≡◌, ◌∙◌, ℕ, ℤ, pos, List, length, Option, Some, None, Result, Ok, Err, IfErr, ap, sym, subst, arith}
use Rattle.std.proofs.lemmas.List.FromFn.{length-map-range_with_len}
use Rattle.emtp_case.proofs.NamedEnds.{branch_named, switch_named}
use Rattle.emtp_case.proofs.Places.{place_within}
use Rattle.emtp_case.proofs.RowsOfNodes.{row_named}
use Rattle.emtp_case.specs.EndNames.{node_of_branch, node_of_switch}
use Rattle.emtp_case.specs.held.Case.{IsCase}
use Rattle.emtp_case.specs.held.EndNames.{IsNode}
use Rattle.emtp_case.specs.RowOrder.{order_of}
use Rattle.emtp_case.specs.StepRecord.{StepRecord}
use Rattle.emtp_case.specs.declared.case.Parts.{Parts}
use Rattle.emtp_elim.proofs.ChainErrors.{then_err, unless_err}
use Rattle.emtp_elim.proofs.RowsOfFaults.{NamesRow, outcome_names_row}
use Rattle.emtp_elim.specs.Outcome.{outcome}
use Rattle.emtp_elim.specs.declared.fault.PlainFault.{PlainFault}
use Rattle.emtp_elim.specs.declared.fault.PlainFault.TheVariants.{NoMemory, Row, Solve}
use Rattle.emtp_elim.specs.declared.fault.RowCause.{RowCause}
use Rattle.emtp_elim.specs.declared.fault.RowCause.TheVariants.{Range as RowRange, ZeroPivot as RowPivot}
use Rattle.emtp_fix.specs.Chain.{unless}
use Rattle.emtp_net.specs.Part.{NetworkPart, first_out, part_at, voltages_of}
use Rattle.emtp_net.specs.Residual.{residual_of}
use Rattle.emtp_net.specs.Step.{fault_by, first_beyond, first_unbalanced, moved, named, network_part, solution as solved, switched, untied}
use Rattle.emtp_net.specs.System.{matrix, right}
use Rattle.emtp_net.specs.declared.fault.NetFault.{NetFault}
use Rattle.emtp_net.specs.declared.fault.NetFault.TheVariants.{Range, Residual, Tied, ZeroPivot}
use Rattle.emtp_net.proofs.Ending.{part_currents}
use Rattle.emtp_rows.specs.Nodal.{node_at}
use Rattle.emtp_switch.proofs.RowKinds.{tied_there}
use Rattle.emtp_switch.specs.Groups.{tied_of}
use Rattle.emtp_switch.specs.States.{next_state, next_states}
use Rattle.emtp_laws.proofs.GroupVoltages.{size}

-- the node that a fault names
abbrev pub node_of : NetFault → ℕ
node_of (Tied node) = node
node_of (ZeroPivot node) = node
node_of (Range node) = node
node_of (Residual node x) = node

-- it is one of the case
abbrev pub BlamesNode : Parts → NetFault → Type 0
BlamesNode case fault = IsNode case (node_of fault)

-- ---- the elimination

cause_named : (case : Parts) (cause : RowCause) (node : ℕ) → IsNode case node → BlamesNode case (fault_by cause node)
cause_named case RowRange node is = is
cause_named case RowPivot node is = is

solved_named : (case : Parts) (o : Result (List ℤ) PlainFault) → IfErr o (NamesRow (length case.nodes)) → IfErr (named case o) (BlamesNode case)
solved_named case (Ok x) there = tt
solved_named case (Err (Row fault)) there = cause_named case fault.cause (node_at case fault.row) (row_named case fault.row there)
solved_named case (Err (Solve fault)) there = row_named case fault.row there
solved_named case (Err NoMemory) there = absurd there

-- ---- the step

moved_is : (case : Parts) (H : List StepRecord) (vs : List ℤ) (part : NetworkPart) → moved case H vs ≡ Ok part → length part.switch_currents ≡ length case.switches
moved_is case H vs part is = by (first_out case H vs) is
  where
    by : (o : Option ℕ) → unless o (λ b. Range (node_of_branch case b)) (Ok (part_at case H vs)) ≡ Ok part → length part.switch_currents ≡ length case.switches
    by None e =
        let same : part_at case H vs ≡ part = cc in
        ap (λ (p : NetworkPart). length p.switch_currents) (sym same) ∙ ap length (part_currents case H vs) ∙ length-map-range_with_len _ 0 (length case.switches)
    by (Some b) e = absurd (cc)

pub part_named : (case : Parts) (H : List StepRecord) → IsCase case → IfErr (network_part case H) (BlamesNode case)
unfolding network_part
part_named case H fits =
    let P = BlamesNode case in
    then_err P (untied case H) _
    (unless_err P (tied_of case.switches (order_of case) (next_states case H)) (λ s. Tied (node_of_switch case s)) _
    (λ s is. switch_named case s fits (tied_there case (order_of case) (next_states case H) s (length-map-range_with_len (next_state case H) 0 (length case.switches)) is)) tt)
    (λ none e.
    then_err P (solved case H) _
    (solved_named case (outcome (matrix case H) (right case H)) (subst (λ n. IfErr (outcome (matrix case H) (right case H)) (NamesRow n)) (size case H) (outcome_names_row (matrix case H) (right case H))))
    (λ x f.
    then_err P (moved case H (voltages_of case x)) _
    (unless_err P (first_out case H (voltages_of case x)) (λ b. Range (node_of_branch case b)) _ (λ b is. branch_named case b fits (place_within _ (length case.branches) b is)) tt)
    (λ part made.
    then_err P (switched case part) _
    (unless_err P (first_beyond part.switch_currents) (λ s. Range (node_of_switch case s)) _
    (λ s is. switch_named case s fits (omega (arith, place_within _ (length part.switch_currents) s is, moved_is case H (voltages_of case x) part made))) tt)
    (λ within g. unless_err P (first_unbalanced case H within.branches) (λ i. Residual (node_at case i) (pos (residual_of case H within.branches i))) _ (λ i is. row_named case i (place_within _ (length case.nodes) i is)) tt))))
