-- What the stages of a step find, one after the other, each with the records alone.
use Rattle.std.specs.Prelude.{◌≡◌, ◌+◌, ◌<◌, ◌≤◌, ℕ, ℤ, IsSome, List, length, IfErr, MatchResult, None, OnOk, Result, Ok, Err}
use Rattle.emtp_case.specs.RowOrder.{order_of}
use Rattle.emtp_case.specs.StepRecord.{StepRecord, latest}
use Rattle.emtp_case.specs.declared.case.Parts.{Parts}
use Rattle.emtp_case.specs.declared.row_kind.RowKind.{RowKind}
use Rattle.emtp_elim.specs.Outcome.{outcome}
use Rattle.emtp_rows.specs.Nodal.{Nodal}
use Rattle.emtp_rows.specs.held.Touched.{NodalRows}
use Rattle.emtp_switch.specs.Groups.{tied_of}
use Rattle.emtp_switch.specs.States.{next_states}
use Rattle.emtp_switch.specs.held.Switching.{Switching}
use Rattle.emtp_tail.specs.held.Good.{Good}
use Rattle.emtp_net.specs.held.Branches.{StandsFor as BranchesStandFor}
use Rattle.emtp_net.specs.held.Moving.{HaveMoved}
use Rattle.emtp_net.specs.Part.{leaving_rows, state_at, states_at, switch_currents_at, voltages_of}
use Rattle.emtp_net.specs.Redone.{step_redone}
use Rattle.emtp_net.specs.held.Redone.{last_matrix, step_ticks}
use Rattle.emtp_net.specs.Step.{first_beyond, first_unbalanced, network_part}
use Rattle.emtp_net.specs.System.{conductances, kinds_of, matrix, right}
use Rattle.emtp_net.specs.held.System.{source_values}
use Rattle.emtp_net.specs.declared.branches.Branches.{Branches}
use Rattle.emtp_net.specs.declared.factor.NodalMatrix.{NodalMatrix}
use Rattle.emtp_net.specs.declared.fault.NetFault.{NetFault}
use Rattle.emtp_net.specs.declared.fault.NetFault.TheVariants.{Range, Residual, Tied, ZeroPivot}
use Rattle.emtp_net.specs.declared.nodal_system.NodalSystem.{NodalSystem}

-- ---- the end

-- the rows redone in a step that ends so: none where the switches tie two known voltages
abbrev pub step_adds : NetFault → Parts → List StepRecord → ℕ
step_adds (Tied node) case H = 0
step_adds (ZeroPivot node) case H = step_redone case H
step_adds (Range node) case H = step_redone case H
step_adds (Residual node x) case H = step_redone case H

-- the step ends with this fault, once so many rows are redone
pub record Ends (case : Parts) (H : List StepRecord) (redone : ℕ) (fault : NetFault) : Type 0 where
  pub is : network_part case H ≡ Err fault
  pub adds : step_adds fault case H ≡ redone

-- ---- switches

-- no two known voltages are tied in the next step
abbrev pub IsUntied : Parts → List StepRecord → Type 0
IsUntied case H = tied_of case.switches (order_of case) (next_states case H) ≡ None

-- the switches have their next states, and the rows their kinds
pub record IsDecided (case : Parts) (H : List StepRecord) (kinds : List RowKind) (rows : NodalRows)
    (switches : Switching) : Type 0 where
  pub free : IsUntied case H
  pub states_are : switches.states ≡ next_states case H
  pub kinds_are : kinds ≡ kinds_of case H
  pub rows_are : rows.nodal.kinds ≡ kinds_of case H

-- the rows get the kinds that follow from switches in their next states, or the step ends where these tie two known voltages
abbrev pub SetsKinds : Result (Unit {0}) NetFault → Parts → Switching → NodalSystem → NodalRows → Type 0
SetsKinds result case switches system rows =
    (H : List StepRecord) → switches.states ≡ next_states case H
    → MatchResult result (λ u. IsDecided case H system.kinds.items rows switches) (Ends case H 0)

-- ---- the factor

-- the factor is that of the last step's matrix, and rows have their next kinds
pub record IsReady (case : Parts) (H : List StepRecord) (branches : Branches) (rows : NodalRows) (kept : Good)
    (made : ℕ) : Type 0 where
  pub stands : BranchesStandFor branches H
  pub free : IsUntied case H
  pub kinds : rows.nodal.kinds ≡ kinds_of case H
  pub kept_is : kept.rows ≡ last_matrix case H
  pub steps : made + 1 ≡ length H

-- the factor is made wherever the rows are ready, or the step ends; so many rows are redone, and so many eliminated
pub record IsFactored (result : Result (Unit {0}) NetFault) (case : Parts) (H : List StepRecord)
    (old new : NodalMatrix) (before after : ℕ) : Type 0 where
  pub made : OnOk result (new.kept.rows ≡ matrix case H)
  pub ends : IfErr result (Ends case H (step_redone case H))
  pub redone : new.redone ≡ old.redone + step_redone case H
  pub ticks : OnOk result (after ≡ before + step_ticks case H)
  pub most : after ≤ before + step_ticks case H

abbrev pub Factors : Result (Unit {0}) NetFault → Parts → Branches → ℕ → NodalMatrix → NodalMatrix → ℕ → ℕ → Type 0
Factors result case branches made old new before after =
    (H : List StepRecord) → IsReady case H branches old.rows old.kept made → IsFactored result case H old new before after

-- the rows have the conductances of the next step, for all records for which the branches stand
abbrev pub SetsConductances : Parts → Branches → Nodal → Nodal → Type 0
SetsConductances case branches old new =
    (H : List StepRecord) → BranchesStandFor branches H → new ≡ record old { own = conductances case H }

-- ---- voltages

-- the sources have their values of the next step, for all records of which the control's values are the last
abbrev pub SetsSources : Parts → ℕ → List ℤ → NodalSystem → Type 0
SetsSources case step tacs system =
    (H : List StepRecord) → step ≡ length H → tacs ≡ (latest H).values → system.values.items ≡ source_values case H

-- the factor is that of the next step's matrix, and the kinds and the sources are those of the next step
pub record IsPosed (case : Parts) (H : List StepRecord) (branches : Branches) (system : NodalSystem) (kept : Good) : Type 0 where
  pub stands : BranchesStandFor branches H
  pub free : IsUntied case H
  pub kinds : system.kinds.items ≡ kinds_of case H
  pub values : system.values.items ≡ source_values case H
  pub kept_is : kept.rows ≡ matrix case H

-- the voltages of the next step are these
pub record AreVoltages (case : Parts) (H : List StepRecord) (vs : List ℤ) : Type 0 where
  pub free : IsUntied case H
  pub x : List ℤ
  pub solved : outcome (matrix case H) (right case H) ≡ Ok x
  pub are : vs ≡ voltages_of case x

-- ---- currents

-- the voltages are found wherever the system is posed, or the step ends
abbrev pub FindsVoltages : Result (Unit {0}) NetFault → Parts → Branches → NodalSystem → Good → List ℤ → Type 0
FindsVoltages result case branches system kept vs =
    (H : List StepRecord) → IsPosed case H branches system kept
    → MatchResult result (λ u. AreVoltages case H vs) (Ends case H (step_redone case H))

-- The branches take the voltages: they have moved, for all records for which they stood. An error ends the step, where the
-- voltages are those of its records.
abbrev pub TakesVoltages : Result (Unit {0}) NetFault → Parts → List ℤ → List ℤ → Branches → Branches → Type 0
TakesVoltages result case vs currents s t =
    (H : List StepRecord) → BranchesStandFor s H
    → MatchResult result (λ u. HaveMoved t currents case H vs) (λ e. AreVoltages case H vs → Ends case H (step_redone case H) e)

-- each branch is in range at these voltages
abbrev pub AllInRange : Parts → List StepRecord → List ℤ → Type 0
AllInRange case H vs = (b : ℕ) → b < length case.branches → IsSome (state_at case H vs b)

-- the switch currents of the next step are these, and in range
pub record HasCurrents (case : Parts) (H : List StepRecord) (vs currents : List ℤ) : Type 0 where
  pub are : currents ≡ switch_currents_at case H (states_at case H vs)
  pub within : first_beyond (switch_currents_at case H (states_at case H vs)) ≡ None

-- what leaves the node of each row is found, once the branches moved
abbrev pub FindsLeaving : Parts → Branches → List ℤ → NodalSystem → NodalSystem → Type 0
FindsLeaving case branches currents old new =
    (H : List StepRecord) (vs : List ℤ) → HaveMoved branches currents case H vs → old.values.items ≡ source_values case H
    → new.right.items ≡ leaving_rows case H (states_at case H vs)

-- the voltages are those of the next step, with each branch in range, and the rows have what leaves their nodes then
pub record HasLeaving (case : Parts) (H : List StepRecord) (vs : List ℤ) (system : NodalSystem) : Type 0 where
  pub voltages : AreVoltages case H vs
  pub in_range : AllInRange case H vs
  pub leaving : system.right.items ≡ leaving_rows case H (states_at case H vs)

-- the switch currents are found by what leaves the nodes, or the step ends
abbrev pub FindsCurrents : Result (Unit {0}) NetFault → Parts → NodalSystem → Switching → List ℤ → Type 0
FindsCurrents result case system switches currents =
    (H : List StepRecord) (vs : List ℤ) → HasLeaving case H vs system → switches.states ≡ next_states case H
    → MatchResult result (λ u. HasCurrents case H vs currents) (Ends case H (step_redone case H))

-- no residual exceeds the tolerance
abbrev pub IsBalanced : Parts → List StepRecord → List ℤ → Type 0
IsBalanced case H vs = first_unbalanced case H (states_at case H vs) ≡ None

-- the residuals are judged by what leaves the nodes: none exceeds the tolerance, or the step ends
abbrev pub JudgesStep : Result (Unit {0}) NetFault → Parts → NodalSystem → Type 0
JudgesStep result case system =
    (H : List StepRecord) (vs currents : List ℤ) → HasLeaving case H vs system → HasCurrents case H vs currents
    → system.kinds.items ≡ kinds_of case H
    → MatchResult result (λ u. IsBalanced case H vs) (Ends case H (step_redone case H))
