-- The nodal system of the next step, from the case and its records, newest first, and nothing else.
use Rattle.std.specs.List.{find}
use Rattle.std.specs.Prelude.{ℕ, ◌==◌, ◌&&◌, ℤ, pos, neg_ℤ, ◌+ℤ◌, if◌then◌else◌, List, length, slice_get, Option, Some, None, unwrap_or, option_map}
use Rattle.emtp_elim.specs.Matrix.{Matrix, list_of}
use Rattle.emtp_case.specs.Branch.{from_of, to_of}
use Rattle.emtp_case.specs.RowOrder.{order_of}
use Rattle.emtp_case.specs.Source.{is_voltage_source_at}
use Rattle.emtp_case.specs.StepRecord.{StepRecord, latest}
use Rattle.emtp_case.specs.declared.branch.Branch.{Branch}
use Rattle.emtp_case.specs.declared.branch.Branch.TheVariants.{Lumped as OfLumped, Line as OfLine, Pseudo as OfPseudo, Phase as OfPhase}
use Rattle.emtp_case.specs.declared.case.Parts.{Parts}
use Rattle.emtp_case.specs.declared.row_kind.RowKind.{RowKind}
use Rattle.emtp_case.specs.declared.row_kind.RowKind.TheVariants.{Kcl, Sum, Tie, Ground, Source as SourceRow}
use Rattle.emtp_case.specs.declared.source.Source.{Source}
use Rattle.emtp_line.specs.Line.{line_histories}
use Rattle.emtp_line.specs.Lines as lined
use Rattle.emtp_line.specs.Mode.{mode_of_line}
use Rattle.emtp_line.specs.Phases.{modes_of, mutual_conductance, own_conductance, phase_from_history, phase_to_history}
use Rattle.emtp_lumped.specs.Companion.{companion_of}
use Rattle.emtp_lumped.specs.Lumps as lumped
use Rattle.emtp_lumped.specs.Step.{history_current_of}
use Rattle.emtp_pseudo.specs.Pseudos as pseudo
use Rattle.emtp_rows.specs.Nodal.{Nodal, nodal_matrix, node_at, kind_at, group_sum}
use Rattle.emtp_case.specs.Sums.{sum_below, total}
use Rattle.emtp_switch.specs.Kinds as switched
use Rattle.emtp_switch.specs.States.{next_states}
use Rattle.emtp_wave.specs.Wave.{value_of}

-- ---- the matrix

-- the conductance of a branch in the next step, of a line or a phase that of each end
abbrev pub conductance_by : Parts → List StepRecord → ℕ → Option Branch → ℤ
conductance_by case H b None = pos 0
conductance_by case H b (Some (OfLumped x)) = (companion_of case.run.dt x).conductance
conductance_by case H b (Some (OfLine x)) = (mode_of_line case.run.dt x).conductance
conductance_by case H b (Some (OfPseudo x)) = (pseudo.present case x (pseudo.moments_of x b H)).conductance
conductance_by case H b (Some (OfPhase x)) = own_conductance (modes_of case.run.dt (lined.trio_of case x.trio))

abbrev pub conductances : Parts → List StepRecord → List ℤ
conductances case H = list_of (length case.branches) (λ b. conductance_by case H b (slice_get case.branches b))

-- the mutual conductances of the three-phase lines, the same in all steps
abbrev pub couplings : Parts → List ℤ
couplings case = list_of (length case.trios) (λ t. mutual_conductance (modes_of case.run.dt (lined.trio_of case t)))

-- the kinds of the rows, by the switches of the next step
abbrev pub kinds_of : Parts → List StepRecord → List RowKind
kinds_of case H = switched.kinds_of case (order_of case) (next_states case H)

abbrev pub nodal : Parts → List StepRecord → Nodal
nodal case H = record { case = case; own = conductances case H; coupling = couplings case; kinds = kinds_of case H }

abbrev pub matrix : Parts → List StepRecord → Matrix
matrix case H = nodal_matrix (nodal case H)

-- ---- currents at a node

-- what a branch brings to node n, from what it brings to its two nodes
abbrev pub at_node : ℕ → Option Branch → ℤ × ℤ → ℤ
at_node n None ends = pos 0
at_node n (Some b) ends = (if from_of b == n then ends.0 else pos 0) +ℤ (if to_of b == n then ends.1 else pos 0)

-- what all branches bring to node n, where f says what each brings to its two nodes
abbrev pub branch_sum : Parts → (ℕ → ℤ × ℤ) → ℕ → ℤ
branch_sum case f n = sum_below (length case.branches) (λ b. at_node n (slice_get case.branches b) (f b))

-- the value of a source in the next step: the values of the control are those of the last record
abbrev pub source_value : Parts → List StepRecord → Source → ℤ
source_value case H s = value_of case.run (latest H).values s (length H)

-- the sum of the current sources of node n
abbrev pub sources_into : Parts → List StepRecord → ℕ → ℤ
sources_into case H n = total (λ (s : Source). if s.current && (s.node == n) then source_value case H s else pos 0) case.sources

-- the voltage that a source keeps at node n
abbrev pub voltage_of : Parts → List StepRecord → ℕ → ℤ
voltage_of case H n = unwrap_or (option_map (source_value case H) (find (is_voltage_source_at n) case.sources)) (pos 0)

-- ---- the right side

-- two currents that flow from the nodes of a branch into it, as what they bring to the nodes
abbrev pub taken : ℤ × ℤ → ℤ × ℤ
taken ends = (neg_ℤ ends.0, neg_ℤ ends.1)

-- a current through a branch leaves its first node and enters its second
abbrev pub through : ℤ → ℤ × ℤ
through i = (neg_ℤ i, i)

-- the history currents that a branch brings to its two nodes
abbrev pub history_by : Parts → List StepRecord → ℕ → Option Branch → ℤ × ℤ
history_by case H b None = (pos 0, pos 0)
history_by case H b (Some (OfLumped x)) =
    through (history_current_of (companion_of case.run.dt x) (lumped.newest (lumped.states_of b H)))
history_by case H b (Some (OfLine x)) = taken (line_histories (mode_of_line case.run.dt x) (lined.states_of b H))
history_by case H b (Some (OfPseudo x)) = through (pseudo.next_history_current case x (pseudo.moments_of x b H))
history_by case H b (Some (OfPhase x)) =
    taken (
      phase_from_history (modes_of case.run.dt (lined.trio_of case x.trio)) (lined.phase_states_of case x.trio H 0)
          (lined.phase_states_of case x.trio H x.phase),
      phase_to_history (modes_of case.run.dt (lined.trio_of case x.trio)) (lined.phase_states_of case x.trio H 0)
          (lined.phase_states_of case x.trio H x.phase),
    )

abbrev pub history_at : Parts → List StepRecord → ℕ → ℤ × ℤ
history_at case H b = history_by case H b (slice_get case.branches b)

-- what history currents and sources bring to node n
abbrev pub right_current : Parts → List StepRecord → ℕ → ℤ
right_current case H n = branch_sum case (history_at case H) n +ℤ sources_into case H n

abbrev pub right_by : Parts → List StepRecord → ℕ → RowKind → ℤ
right_by case H i Kcl = right_current case H (node_at case i)
right_by case H i Sum = group_sum case (kinds_of case H) i (right_current case H)
right_by case H i (Tie row) = pos 0
right_by case H i Ground = pos 0
right_by case H i SourceRow = voltage_of case H (node_at case i)

unfoldable pub right : Parts → List StepRecord → List ℤ
right case H = list_of (length case.nodes) (λ i. right_by case H i (kind_at (kinds_of case H) i))
