-- A case with other sources, another time step and another number of steps has the same network's step after its records as the case
-- after its own, where its branches, switches and sources bring the same into it.
use Rattle.std.proofs.Common.{◌≡◌, ◌∙◌, ◌+ℤ◌, ℕ, ℤ, pos, neg_ℤ, if◌then◌else◌, nat_lt, unsigned_abs, List, ◌∷◌, map, length, slice_get, Option, Result, Ok, Err, refl, ap}
use Rattle.std.specs.List.{position, range_with_len}
use Rattle.std.specs.Prelude.{is_none, unwrap_or}
use Rattle.std.proofs.Math.Path.{fun_ext}
use Rattle.emtp_case.specs.RowOrder.{Rows, has_source, order_of}
use Rattle.emtp_case.specs.StepRecord.{BranchState, LumpedBranch, StepRecord, no_lumped}
use Rattle.emtp_case.specs.Sums.{sum_below}
use Rattle.emtp_case.specs.declared.case.Parts.{Parts}
use Rattle.emtp_case.specs.declared.row_kind.RowKind.{RowKind}
use Rattle.emtp_case.specs.declared.row_kind.RowKind.TheVariants.{Kcl, Sum, Tie, Ground, Source as SourceRow}
use Rattle.emtp_case.specs.declared.switch.SwitchState.{SwitchState}
use Rattle.emtp_elim.specs.Matrix.{Matrix, item, list_of}
use Rattle.emtp_elim.specs.Outcome.{outcome}
use Rattle.emtp_elim.specs.declared.fault.PlainFault.{PlainFault}
use Rattle.emtp_elim.specs.declared.fault.PlainFault.TheVariants.{NoMemory, Row, Solve}
use Rattle.emtp_fix.specs.Chain.{◌>>=◌, unless}
use Rattle.emtp_net.specs.Part.{NetworkPart, brought_by, first_out, leaving, leaving_rows, node_of_branch, part_at, state_at, states_at, switch_currents_at, voltages_of}
use Rattle.emtp_net.specs.Residual.{residual_by, residual_of}
use Rattle.emtp_net.specs.Step.{balanced, fault_by, fault_of, moved, node_of_switch, named, network_part, solution, switched, untied}
use Rattle.emtp_net.specs.System.{branch_sum, conductances, couplings, history_at, kinds_of, matrix, right, right_by, right_current, sources_into, voltage_of}
use Rattle.emtp_net.specs.declared.fault.NetFault.{NetFault}
use Rattle.emtp_net.specs.declared.fault.NetFault.TheVariants.{Range, Residual, Tied}
use Rattle.emtp_rows.specs.Nodal.{group_sum, is_member, kind_at, nodal_matrix, node_at}
use Rattle.emtp_switch.specs.Currents as currents
use Rattle.emtp_switch.specs.Groups.{tied_of}
use Rattle.emtp_switch.specs.Kinds as switches
use Rattle.emtp_switch.specs.Kinds.{has_feed}
use Rattle.emtp_switch.specs.States.{next_states}
use Rattle.emtp_laws.proofs.AlikeRows.{Other, changed, kinds_same, matrix_same, nodal_with, nodes_same, order_same, rows_same}

-- all that the step takes of the case with its records, and of the other one with its own, is the same
pub record TakeAlike (case : Parts) (o : Other) (K H : List StepRecord) : Type 0 where
  pub known : has_source (changed o case) ≡ has_source case
  pub feed : has_feed (changed o case) ≡ has_feed case
  pub own : conductances (changed o case) K ≡ conductances case H
  pub coupling : couplings (changed o case) ≡ couplings case
  pub states : next_states (changed o case) K ≡ next_states case H
  pub history : history_at (changed o case) K ≡ history_at case H
  pub into : sources_into (changed o case) K ≡ sources_into case H
  pub held : voltage_of (changed o case) K ≡ voltage_of case H
  pub moves : state_at (changed o case) K ≡ state_at case H

abbrev balanced_by : Parts → (ℕ → ℕ) → (ℕ → ℕ) → NetworkPart → Result NetworkPart NetFault
balanced_by case f at part =
    unless (position (λ i. nat_lt (unsigned_abs case.run.tolerance) (f i)) (range_with_len 0 (length case.nodes))) (λ i. Residual (at i) (pos (f i))) (Ok part)

module _ (case : Parts) (o : Other) (K H : List StepRecord) (a : TakeAlike case o K H) where
  -- ---- the system

  step_kinds : kinds_of (changed o case) K ≡ kinds_of case H
  step_kinds =
      ap (λ (ss : List SwitchState). switches.kinds_of (changed o case) (order_of (changed o case)) ss) a.states
      ∙ ap (λ (r : Rows). switches.kinds_of (changed o case) r (next_states case H)) (order_same case o a.known)
      ∙ kinds_same case o a.feed (order_of case) (next_states case H)

  step_matrix : matrix (changed o case) K ≡ matrix case H
  step_matrix =
      ap (λ (own : List ℤ). nodal_matrix (nodal_with (changed o case) own (couplings (changed o case)) (kinds_of (changed o case) K))) a.own
      ∙ ap (λ (coupling : List ℤ). nodal_matrix (nodal_with (changed o case) (conductances case H) coupling (kinds_of (changed o case) K))) a.coupling
      ∙ ap (λ (kinds : List RowKind). nodal_matrix (nodal_with (changed o case) (conductances case H) (couplings case) kinds)) step_kinds
      ∙ matrix_same case o a.known (conductances case H) (couplings case) (kinds_of case H)

  current_same : right_current (changed o case) K ≡ right_current case H
  current_same =
      ap {B = ℕ → ℤ} (λ (h : ℕ → ℤ × ℤ) (n : ℕ). branch_sum case h n +ℤ sources_into (changed o case) K n) a.history
      ∙ ap {B = ℕ → ℤ} (λ (f : ℕ → ℤ) (n : ℕ). branch_sum case (history_at case H) n +ℤ f n) a.into

  row_same : (i : ℕ) (k : RowKind) → right_by (changed o case) K i k ≡ right_by case H i k
  row_same i Kcl =
      ap (λ (f : ℕ → ℤ). f (node_at (changed o case) i)) current_same ∙ ap (λ (at : ℕ → ℕ). right_current case H (at i)) (nodes_same case o a.known)
  row_same i Sum =
      ap (λ (kinds : List RowKind). group_sum (changed o case) kinds i (right_current (changed o case) K)) step_kinds
      ∙ ap (group_sum (changed o case) (kinds_of case H) i) current_same
      ∙ ap (λ (at : ℕ → ℕ). sum_below (length case.nodes) (λ k. if is_member (kinds_of case H) i k then right_current case H (at k) else pos 0)) (nodes_same case o a.known)
  row_same i (Tie row) = refl
  row_same i Ground = refl
  row_same i SourceRow =
      ap (λ (f : ℕ → ℤ). f (node_at (changed o case) i)) a.held ∙ ap (λ (at : ℕ → ℕ). voltage_of case H (at i)) (nodes_same case o a.known)

  right_same : right (changed o case) K ≡ right case H
  unfolding right
  right_same =
      ap (λ (kinds : List RowKind). list_of (length case.nodes) (λ i. right_by (changed o case) K i (kind_at kinds i))) step_kinds
      ∙ ap (list_of (length case.nodes)) (fun_ext (λ i. row_same i (kind_at (kinds_of case H) i)))

  voltages_same : voltages_of (changed o case) ≡ voltages_of case
  unfolding voltages_of
  voltages_same = ap {B = List ℤ → List ℤ} (λ (at : ℕ → ℕ) (x : List ℤ). pos 0 ∷ map (λ n. item x (at n)) (range_with_len 1 (length case.nodes))) (rows_same case o a.known)

  -- ---- the part

  branches_same : (vs : List ℤ) → states_at (changed o case) K vs ≡ states_at case H vs
  branches_same vs = ap (λ (f : List ℤ → ℕ → Option BranchState). map (λ b. unwrap_or (f vs b) (LumpedBranch no_lumped)) (range_with_len 0 (length case.branches))) a.moves

  out_same : (vs : List ℤ) → first_out (changed o case) K vs ≡ first_out case H vs
  out_same vs = ap (λ (f : List ℤ → ℕ → Option BranchState). position (λ b. is_none (f vs b)) (range_with_len 0 (length case.branches))) a.moves

  leaving_same : (bs : List BranchState) → leaving (changed o case) K bs ≡ leaving case H bs
  leaving_same bs = ap {B = ℕ → ℤ} (λ (f : ℕ → ℤ) (n : ℕ). neg_ℤ (branch_sum case (λ b. brought_by (slice_get bs b)) n +ℤ f n)) a.into

  leaving_rows_same : (bs : List BranchState) → leaving_rows (changed o case) K bs ≡ leaving_rows case H bs
  leaving_rows_same bs =
      ap (λ (f : ℕ → ℤ). list_of (length case.nodes) (λ i. f (node_at (changed o case) i))) (leaving_same bs)
      ∙ ap (λ (at : ℕ → ℕ). list_of (length case.nodes) (λ i. leaving case H bs (at i))) (nodes_same case o a.known)

  switch_currents_same : (bs : List BranchState) → switch_currents_at (changed o case) K bs ≡ switch_currents_at case H bs
  switch_currents_same bs =
      ap (λ (ss : List SwitchState). currents.currents_of case.switches (order_of (changed o case)) ss (leaving_rows (changed o case) K bs)) a.states
      ∙ ap (λ (r : Rows). currents.currents_of case.switches r (next_states case H) (leaving_rows (changed o case) K bs)) (order_same case o a.known)
      ∙ ap (currents.currents_of case.switches (order_of case) (next_states case H)) (leaving_rows_same bs)

  part_same : (vs : List ℤ) → part_at (changed o case) K vs ≡ part_at case H vs
  unfolding part_at
  part_same vs =
      ap (λ (bs : List BranchState). let p : NetworkPart = record { voltages = vs; branches = bs; switch_states = next_states (changed o case) K; switch_currents = switch_currents_at (changed o case) K bs } in p) (branches_same vs)
      ∙ ap (λ (ss : List SwitchState). let p : NetworkPart = record { voltages = vs; branches = states_at case H vs; switch_states = ss; switch_currents = switch_currents_at (changed o case) K (states_at case H vs) } in p) a.states
      ∙ ap (λ (is : List ℤ). let p : NetworkPart = record { voltages = vs; branches = states_at case H vs; switch_states = next_states case H; switch_currents = is } in p) (switch_currents_same (states_at case H vs))

  residual_same : (bs : List BranchState) (i : ℕ) (k : RowKind) → residual_by (changed o case) K bs i k ≡ residual_by case H bs i k
  residual_same bs i Kcl =
      ap (λ (f : ℕ → ℤ). unsigned_abs (f (node_at (changed o case) i))) (leaving_same bs) ∙ ap (λ (at : ℕ → ℕ). unsigned_abs (leaving case H bs (at i))) (nodes_same case o a.known)
  residual_same bs i Sum =
      ap (λ (kinds : List RowKind). unsigned_abs (group_sum (changed o case) kinds i (leaving (changed o case) K bs))) step_kinds
      ∙ ap (λ (f : ℕ → ℤ). unsigned_abs (group_sum (changed o case) (kinds_of case H) i f)) (leaving_same bs)
      ∙ ap (λ (at : ℕ → ℕ). unsigned_abs (sum_below (length case.nodes) (λ k. if is_member (kinds_of case H) i k then leaving case H bs (at k) else pos 0))) (nodes_same case o a.known)
  residual_same bs i (Tie row) = refl
  residual_same bs i Ground = refl
  residual_same bs i SourceRow = refl

  residuals_same : (bs : List BranchState) → residual_of (changed o case) K bs ≡ residual_of case H bs
  residuals_same bs = fun_ext (λ i.
      ap (λ (kinds : List RowKind). residual_by (changed o case) K bs i (kind_at kinds i)) step_kinds
      ∙ residual_same bs i (kind_at (kinds_of case H) i))

  -- ---- the network's step

  untied_same : untied (changed o case) K ≡ untied case H
  untied_same =
      ap (λ (ss : List SwitchState). unless (tied_of case.switches (order_of (changed o case)) ss) (λ s. Tied (node_of_switch case s)) (Ok tt)) a.states
      ∙ ap (λ (r : Rows). unless (tied_of case.switches r (next_states case H)) (λ s. Tied (node_of_switch case s)) (Ok tt)) (order_same case o a.known)

  fault_same : (fault : PlainFault) → fault_of (changed o case) fault ≡ fault_of case fault
  fault_same (Row fault) = ap (λ (at : ℕ → ℕ). fault_by fault.cause (at fault.row)) (nodes_same case o a.known)
  fault_same (Solve fault) = ap (λ (at : ℕ → ℕ). Range (at fault.row)) (nodes_same case o a.known)
  fault_same NoMemory = refl

  named_same : (r : Result (List ℤ) PlainFault) → named (changed o case) r ≡ named case r
  named_same (Ok x) = refl
  named_same (Err fault) = ap Err (fault_same fault)

  solution_same : solution (changed o case) K ≡ solution case H
  solution_same =
      ap (λ (rows : Matrix). named (changed o case) (outcome rows (right (changed o case) K))) step_matrix
      ∙ ap (λ r. named (changed o case) (outcome (matrix case H) r)) right_same
      ∙ named_same (outcome (matrix case H) (right case H))

  moved_same : (vs : List ℤ) → moved (changed o case) K vs ≡ moved case H vs
  moved_same vs =
      ap (λ (out : Option ℕ). unless out (λ b. Range (node_of_branch case b)) (Ok (part_at (changed o case) K vs))) (out_same vs)
      ∙ ap (λ (p : NetworkPart). unless (first_out case H vs) (λ b. Range (node_of_branch case b)) (Ok p)) (part_same vs)

  balanced_same : (part : NetworkPart) → balanced (changed o case) K part ≡ balanced case H part
  balanced_same part =
      ap (λ (g : ℕ → ℕ). balanced_by case g (node_at (changed o case)) part) (residuals_same part.branches)
      ∙ ap (λ (at : ℕ → ℕ). balanced_by case (residual_of case H part.branches) at part) (nodes_same case o a.known)

  pub network_same : network_part (changed o case) K ≡ network_part case H
  unfolding network_part
  network_same =
      let after : List ℤ → Result NetworkPart NetFault = λ x. moved case H (voltages_of case x) >>= (λ part. switched case part >>= (λ within. balanced case H within)) in
      let there : List ℤ → Result NetworkPart NetFault = λ x. moved (changed o case) K (voltages_of (changed o case) x) >>= (λ part. switched case part >>= (λ within. balanced (changed o case) K within)) in
      let same : there ≡ after = fun_ext (λ x.
      ap (λ (f : List ℤ → List ℤ). moved (changed o case) K (f x) >>= (λ part. switched case part >>= (λ within. balanced (changed o case) K within))) voltages_same
      ∙ ap (λ (r : Result NetworkPart NetFault). r >>= (λ part. switched case part >>= (λ within. balanced (changed o case) K within))) (moved_same (voltages_of case x))
      ∙ ap (λ (f : NetworkPart → Result NetworkPart NetFault). moved case H (voltages_of case x) >>= (λ part. switched case part >>= f)) (fun_ext balanced_same)) in
      ap (λ (r : Result (Unit {0}) NetFault). r >>= (λ none. solution (changed o case) K >>= there)) untied_same
      ∙ ap (λ (r : Result (List ℤ) NetFault). untied case H >>= (λ none. r >>= there)) solution_same
      ∙ ap (λ (f : List ℤ → Result NetworkPart NetFault). untied case H >>= (λ none. solution case H >>= f)) same
