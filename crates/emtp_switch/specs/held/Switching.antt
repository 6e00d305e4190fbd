-- What the switches of a case stand for.
use Rattle.emtp_case.specs.RowOrder.{Rows}
use Rattle.emtp_case.specs.StepRecord.{StepRecord, latest, record_back}
use Rattle.emtp_case.specs.declared.case.Parts.{Parts}
use Rattle.emtp_case.specs.declared.switch.SwitchState.{SwitchState}
use Rattle.emtp_fix.specs.Items.{item}
use Rattle.emtp_switch.specs.held.Grouping.{AreGroups}
use Rattle.emtp_switch.specs.held.Plan.{IsPlan}
use Rattle.emtp_switch.specs.States.{next_states}
use Rattle.emtp_switch.specs.declared.groups.Groups.{Groups}
use Rattle.emtp_switch.specs.declared.plan.Plan.{Plan}
use Rattle.emtp_switch.specs.declared.states.LastNumbers.{LastNumbers}
use Rattle.std.specs.Prelude.{◌≡◌, ◌+◌, ◌<◌, ◌∷◌, Bool, List, length, ℕ, ℤ}

-- what a contract sees: the case and the order of its rows, the states of the last step and whether one of them was
-- another in the step before, the currents of the step before, and the capacities of the lists that a step writes
pub record Switching : Type 0 where
  pub case : Parts
  pub rows : Rows
  pub states : List SwitchState
  pub before : List ℤ
  pub changed : Bool
  pub capacities : List ℕ

-- states and currents that are kept of the records, newest first: those of the last one and of the one before it
pub record AreKept (states : List SwitchState) (before : List ℤ) (H : List StepRecord) : Type 0 where
  pub states_are : states ≡ (latest H).switch_states
  pub before_are : (s : ℕ) → s < length before → item before s ≡ item (record_back H 1).switch_currents s

-- the value stands for the records
abbrev pub StandsFor : Switching → List StepRecord → Type 0
StandsFor s H = AreKept s.states s.before H

-- the number of the step after the records, and the numbers of the last one
pub record AreLatest (step : ℕ) (voltages currents values : List ℤ) (H : List StepRecord) : Type 0 where
  pub step_is : step ≡ length H
  pub voltages_are : voltages ≡ (latest H).voltages
  pub currents_are : currents ≡ (latest H).switch_currents
  pub values_are : values ≡ (latest H).values

-- the switches of a case moved: they stand for any further record that has their next states
abbrev pub MovesSwitches : Switching → Switching → ℕ → List ℤ → List ℤ → List ℤ → Type 0
MovesSwitches old new step voltages currents values =
    (H : List StepRecord) (r : StepRecord) → StandsFor old H → AreLatest step voltages currents values H
    → r.switch_states ≡ next_states old.case H → StandsFor new (r ∷ H)

-- the states of the switches are their next ones
abbrev pub MovesStates : Parts → List SwitchState → List ℤ → ℕ → LastNumbers → List SwitchState → Type 0
MovesStates case old before step last new =
    (H : List StepRecord) → AreKept old before H
    → AreLatest step last.voltages.now last.currents.now last.values.now H → new ≡ next_states case H

-- what the value keeps
pub record IsSwitching (p : Parts) (rows : Rows) (plan : Plan) (groups : Groups) (states : List SwitchState)
    (before rest flows : List ℤ) : Type 0 where
  pub plan_is : IsPlan p rows plan
  pub groups_are : AreGroups p rows states groups
  pub states_size : length states ≡ length p.switches
  pub before_size : length before ≡ length p.switches
  pub rest_size : length rest ≡ length p.nodes + 1
  pub flows_size : length flows ≡ length p.switches
