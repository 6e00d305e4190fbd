-- How the fields of a network hold together.
use Rattle.emtp_case.specs.declared.limit.TheConstants.{MOST_NODES}
use Rattle.std.specs.Prelude.{◌≡◌, ◌+◌, ◌-◌, ◌*◌, ◌==◌, ◌≤◌, ◌∷◌, if◌then◌else◌, ℕ, ℤ, All, Bool, true, false, List, [], length, map, slice_get, Some, None, unsigned_abs, vec_capacity, IfErr, OnOk, Result, Err}
use Rattle.emtp_case.specs.RowOrder.{Rows, is_pseudo, order_of}
use Rattle.emtp_case.specs.StepRecord.{StepRecord}
use Rattle.emtp_case.specs.declared.branch.Branch.{Branch}
use Rattle.emtp_case.specs.declared.case.Parts.{Parts}
use Rattle.emtp_case.specs.declared.row_kind.RowKind.{RowKind}
use Rattle.emtp_case.specs.declared.switch.SwitchState.{SwitchState}
use Rattle.emtp_elim.specs.Matrix.{item}
use Rattle.emtp_elim.specs.held.Fault.{IsRowFault}
use Rattle.emtp_elim.specs.Outcome.{outcome}
use Rattle.emtp_elim.specs.declared.fault.PlainFault.TheVariants.{Row}
use Rattle.emtp_elim.specs.declared.fault.RowFault.{RowFault}
use Rattle.emtp_fix.specs.declared.limit.TheConstants.{LARGEST_VALUE}
use Rattle.emtp_rows.specs.Nodal.{nodal_matrix}
use Rattle.emtp_rows.specs.held.Terms.{end_rows}
use Rattle.emtp_rows.specs.held.Touched.{NodalRows, StandsUntouched}
use Rattle.emtp_switch.specs.Groups.{tied_of}
use Rattle.emtp_switch.specs.Kinds as switched
use Rattle.emtp_switch.specs.held.Switching.{Switching}
use Rattle.emtp_tail.specs.Good.{first_change}
use Rattle.emtp_tail.specs.held.Good.{Good}
use Rattle.emtp_net.specs.held.Branches.{HasCase, StandsFor}
use Rattle.emtp_net.specs.held.Rights.{places_of}
use Rattle.emtp_net.specs.held.Sums.{AreUntied}
use Rattle.emtp_net.specs.System.{conductance_by, couplings}
use Rattle.emtp_net.specs.declared.branches.Branches.{Branches}
use Rattle.emtp_net.specs.declared.factor.NodalMatrix.{NodalMatrix}
use Rattle.emtp_net.specs.declared.nodal_system.NodalSystem.{NodalSystem}

-- the lists of the nodal system have their lengths, those that stay are made, and ties of rows are known
pub record HasRoom (case : Parts) (system : NodalSystem) : Type 0 where
  pub kinds : length system.kinds.items ≡ length case.nodes
  pub ties : system.ties ≡ false → AreUntied system.kinds.items
  pub places : system.places.items ≡ places_of case
  pub ends : system.ends.items ≡ map (end_rows case) case.branches
  pub values : length system.values.items ≡ length case.sources
  pub right : length system.right.items ≡ length case.nodes
  pub x : length system.x.items ≡ length case.nodes

-- the capacities of the lists that a step fills anew
abbrev pub capacities_of : NodalSystem → List ℕ
capacities_of system =
    vec_capacity system.kinds ∷ vec_capacity system.values ∷ vec_capacity system.right ∷ vec_capacity system.x ∷ []

-- the switches go by the case and its row order
pub record HoldsSwitches (case : Parts) (switches : Switching) : Type 0 where
  pub case_is : switches.case ≡ case
  pub rows_are : switches.rows ≡ order_of case

-- the kinds of the rows, here and of the matrix, are those that follow from these states of the switches, which tie no two
-- known voltages
pub record HasKinds (case : Parts) (here there : List RowKind) (states : List SwitchState) : Type 0 where
  pub untied : tied_of case.switches (order_of case) states ≡ None
  pub here_are : here ≡ switched.kinds_of case (order_of case) states
  pub there_are : there ≡ switched.kinds_of case (order_of case) states

abbrev pub KeepsKinds : Parts → NodalSystem → NodalRows → Switching → Type 0
KeepsKinds case system rows switches = system.decided ≡ true → HasKinds case system.kinds.items rows.nodal.kinds switches.states

-- a branch has its conductance of the next step, for every list of records that the branches stand for
abbrev pub HasConductance : Branches → Parts → List ℤ → ℕ → Type 0
HasConductance branches case own b =
    (H : List StepRecord) → StandsFor branches H → item own b ≡ conductance_by case H b (slice_get case.branches b)

-- branches that aren't pseudo-nonlinear have their conductances, which are the same in all steps
abbrev pub HasFixed : Parts → List ℤ → Type 0
HasFixed case own =
    (b : ℕ) (x : Branch) → slice_get case.branches b ≡ Some x → is_pseudo x ≡ false
    → item own b ≡ conductance_by case [] b (Some x)

-- the rows are those of the case, and the factor may be kept before the first touched row
pub record HoldsRows (case : Parts) (rows : NodalRows) (kept : Good) : Type 0 where
  pub case_is : rows.nodal.case ≡ case
  pub own_room : length rows.nodal.own ≡ length case.branches
  pub fixed : HasFixed case rows.nodal.own
  pub coupling_is : rows.nodal.coupling ≡ couplings case
  pub kept_size : kept.size ≡ length case.nodes
  pub kept_stands : StandsUntouched rows kept.rows

-- the first row of the matrix that differs from the rows of the factor
abbrev pub first_moved : NodalMatrix → ℕ
first_moved m = first_change m.kept.rows (nodal_matrix m.rows.nodal)

-- The factor follows the rows as they are. So many rows are counted as redone, and so many eliminated; an error is the
-- fault of their matrix, whatever the right side.
pub record FollowsRows (result : Result (Unit {0}) RowFault) (made : ℕ) (old new : NodalMatrix) (before after : ℕ) : Type 0 where
  pub redone : new.redone ≡ old.redone + (if made == 0 then 0 else old.kept.size - first_moved old)
  pub good : OnOk result (new.kept.rows ≡ nodal_matrix old.rows.nodal)
  pub ticks : OnOk result (after + first_moved old ≡ before + old.kept.size)
  pub fault : IfErr result (λ fault. IsRowFault (nodal_matrix old.rows.nodal) fault.row fault.cause)
  pub ends : IfErr result (λ fault. (right : List ℤ) → outcome (nodal_matrix old.rows.nodal) right ≡ Err (Row fault))
  pub fault_ticks : IfErr result (λ fault. after + first_moved old ≤ before + old.kept.size)

-- what the network shows has its lengths
pub record HasShown (case : Parts) (voltages currents switch_currents : List ℤ) (closed : List Bool) : Type 0 where
  pub voltages_count : length voltages ≡ length case.nodes + 1
  pub voltages_small : All (λ v. unsigned_abs v ≤ LARGEST_VALUE) voltages
  pub currents_count : length currents ≡ length case.branches
  pub switch_count : length switch_currents ≡ length case.switches
  pub closed_count : length closed ≡ length case.switches

-- the steps are no more than the case has, and each redoes no more rows than there are
pub record AreFew (case : Parts) (made redone : ℕ) : Type 0 where
  pub made_few : made ≤ case.run.steps
  pub redone_few : redone ≤ MOST_NODES * made

pub record HoldsTogether (case : Parts) (order : Rows) (branches : Branches) (switches : Switching)
    (system : NodalSystem) (matrix : NodalMatrix) (voltages currents switch_currents : List ℤ) (closed : List Bool)
    (made : ℕ) : Type 0 where
  pub order_is : order ≡ order_of case
  pub branches_case : HasCase branches case
  pub switches_hold : HoldsSwitches case switches
  pub room : HasRoom case system
  pub rows_hold : HoldsRows case matrix.rows matrix.kept
  pub decided : KeepsKinds case system matrix.rows switches
  pub shown : HasShown case voltages currents switch_currents closed
  pub few : AreFew case made matrix.redone
