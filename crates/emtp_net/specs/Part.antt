-- The network's part of a record, and how the voltages make it.
use Rattle.std.specs.List.{position, range_with_len}
use Rattle.std.specs.Prelude.{ℕ, ℤ, pos, neg_ℤ, ◌+ℤ◌, ◌-ℤ◌, Bool, true, false, List, [], ◌∷◌, length, map, slice_get, Option, Some, None, is_none, option_map, unwrap_or}
use Rattle.emtp_elim.specs.Matrix.{item, list_of}
pub use Rattle.emtp_case.specs.EndNames.{node_of_branch}
use Rattle.emtp_case.specs.RowOrder.{order_of}
use Rattle.emtp_case.specs.StepRecord.{StepRecord, BranchState, LumpedBranch, LineBranch, PseudoBranch, PhaseBranch, no_lumped}
use Rattle.emtp_case.specs.declared.branch.Branch.{Branch}
use Rattle.emtp_case.specs.declared.branch.Branch.TheVariants.{Lumped as OfLumped, Line as OfLine, Pseudo as OfPseudo, Phase as OfPhase}
use Rattle.emtp_case.specs.declared.branch.Phase.{Phase}
use Rattle.emtp_case.specs.declared.branch.PhaseState.{PhaseState}
use Rattle.emtp_case.specs.declared.case.Parts.{Parts}
use Rattle.emtp_case.specs.declared.switch.SwitchState.{SwitchState}
use Rattle.emtp_line.specs.Line.{next_state as next_line}
use Rattle.emtp_line.specs.Lines as lined
use Rattle.emtp_line.specs.Mode.{mode_of_line}
use Rattle.emtp_line.specs.Phases.{Modes, from_histories, modes_of, phase_end, phase_state, to_histories}
use Rattle.emtp_lumped.specs.Lumps as lumped
use Rattle.emtp_pseudo.specs.Pseudos as pseudo
use Rattle.emtp_rows.specs.Nodal.{node_at, phase_node}
use Rattle.emtp_case.specs.NodeRows.{row_at}
use Rattle.emtp_switch.specs.Currents as switched
use Rattle.emtp_switch.specs.States.{next_states}
use Rattle.emtp_net.specs.System.{branch_sum, sources_into, taken, through}

-- what the network brings to a record
pub record NetworkPart : Type 0 where
  pub voltages : List ℤ
  pub branches : List BranchState
  pub switch_states : List SwitchState
  pub switch_currents : List ℤ

-- ---- voltages

-- the voltages by node number, ground first, from the unknowns by row
unfoldable pub voltages_of : Parts → List ℤ → List ℤ
voltages_of case x = pos 0 ∷ map (λ n. item x (row_at case n)) (range_with_len 1 (length case.nodes))

-- ---- branches

-- the voltages of the three phases of a line at an end
abbrev pub phase_voltages : Parts → Bool → ℕ → List ℤ → List ℤ
phase_voltages case second t vs =
    item vs (phase_node case second t 0) ∷ item vs (phase_node case second t 1)
    ∷ item vs (phase_node case second t 2) ∷ []

-- what a phase keeps of the next step, by the modes of its line and the past of all three phases
abbrev pub phase_by : Parts → List ℤ → Phase → Modes → (ℕ → List PhaseState) → Option PhaseState
phase_by case vs x m past =
    phase_state (phase_end m (from_histories m past) (phase_voltages case false x.trio vs))
    (phase_end m (to_histories m past) (phase_voltages case true x.trio vs)) x.phase

-- what a branch keeps of the next step at these voltages; none where a number is out of range
abbrev pub state_by : Parts → List StepRecord → List ℤ → ℕ → Option Branch → Option BranchState
state_by case H vs b None = None
state_by case H vs b (Some (OfLumped x)) =
    option_map LumpedBranch (lumped.next_of case x (lumped.states_of b H) (item vs x.from -ℤ item vs x.to))
state_by case H vs b (Some (OfLine x)) =
    option_map LineBranch (next_line (mode_of_line case.run.dt x) (lined.states_of b H) (item vs x.from)
    (item vs x.to))
state_by case H vs b (Some (OfPseudo x)) =
    option_map PseudoBranch (pseudo.next_of case x (pseudo.moments_of x b H) (item vs x.from -ℤ item vs x.to))
state_by case H vs b (Some (OfPhase x)) =
    option_map PhaseBranch (phase_by case vs x (modes_of case.run.dt (lined.trio_of case x.trio))
    (lined.phase_states_of case x.trio H))

abbrev pub state_at : Parts → List StepRecord → List ℤ → ℕ → Option BranchState
state_at case H vs b = state_by case H vs b (slice_get case.branches b)

-- the first branch that is out of range
abbrev pub first_out : Parts → List StepRecord → List ℤ → Option ℕ
first_out case H vs = position (λ b. is_none (state_at case H vs b)) (range_with_len 0 (length case.branches))

-- what all branches keep, where each is in range
abbrev pub states_at : Parts → List StepRecord → List ℤ → List BranchState
states_at case H vs =
    map (λ b. unwrap_or (state_at case H vs b) (LumpedBranch no_lumped)) (range_with_len 0 (length case.branches))

-- ---- currents that leave a node

-- what a branch brings to its two nodes by its currents
abbrev pub brought_by : Option BranchState → ℤ × ℤ
brought_by None = (pos 0, pos 0)
brought_by (Some (LumpedBranch s)) = through s.current
brought_by (Some (LineBranch s)) = taken (s.from_current, s.to_current)
brought_by (Some (PseudoBranch s)) = through s.current
brought_by (Some (PhaseBranch s)) = taken (s.from_current, s.to_current)

-- the current that leaves node n through branches, less what current sources bring, in the step after the records
abbrev pub leaving : Parts → List StepRecord → List BranchState → ℕ → ℤ
leaving case H branches n = neg_ℤ (branch_sum case (λ b. brought_by (slice_get branches b)) n +ℤ sources_into case H n)

-- by row
abbrev pub leaving_rows : Parts → List StepRecord → List BranchState → List ℤ
leaving_rows case H branches = list_of (length case.nodes) (λ i. leaving case H branches (node_at case i))

-- ---- the part

-- the switch currents of the next step
abbrev pub switch_currents_at : Parts → List StepRecord → List BranchState → List ℤ
switch_currents_at case H branches =
    switched.currents_of case.switches (order_of case) (next_states case H) (leaving_rows case H branches)

-- the part at these voltages, where each branch and each switch is in range
unfoldable pub part_at : Parts → List StepRecord → List ℤ → NetworkPart
part_at case H vs = record {
  voltages = vs;
  branches = states_at case H vs;
  switch_states = next_states case H;
  switch_currents = switch_currents_at case H (states_at case H vs);
}
