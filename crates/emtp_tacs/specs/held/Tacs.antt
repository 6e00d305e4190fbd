-- What the control stands for.
use Rattle.emtp_case.specs.declared.limit.TheConstants.{MOST_CONTROL_CARDS}
use Rattle.std.specs.Prelude.{◌≡◌, ◌+◌, ◌*◌, ◌≤◌, ◌∷◌, ◌++◌, ℕ, ℤ, List, length, OnOk, Result, Ok, Err}
use Rattle.emtp_blocks.specs.held.BlockRows.{Blocking, StandsFor as BlocksStandFor}
use Rattle.emtp_case.specs.StepRecord.{StepRecord, latest}
use Rattle.emtp_case.specs.declared.case.Parts.{Parts}
use Rattle.emtp_devices.specs.held.Devices.{HeldDevices, StandsFor as DevicesStandFor}
use Rattle.emtp_tail.specs.held.Good.{Good}
use Rattle.emtp_tacs.specs.Part.{ControlPart}
use Rattle.emtp_tacs.specs.held.Part.{control_of}
use Rattle.emtp_tacs.specs.Redone.{control_redone, control_step_redone}
use Rattle.emtp_tacs.specs.held.Redone.{control_step_ticks, last_control_matrix}
use Rattle.emtp_tacs.specs.held.Stages.{HoldsSystem, HoldsVariables, capacities_of_system, capacities_of_variables}
use Rattle.emtp_tacs.specs.Step.{Measured, control_step}
use Rattle.emtp_tacs.specs.declared.block_system.BlockSystem.{BlockSystem}
use Rattle.emtp_tacs.specs.declared.fault.TacsFault.{TacsFault}
use Rattle.emtp_tacs.specs.declared.variables.Variables.{Variables}

-- what a contract sees of the control; the capacities are those of the lists that a step writes, but for the factor's
pub record HeldControl : Type 0 where
  pub case : Parts
  pub blocks : Blocking
  pub devices : HeldDevices
  pub kept : Good
  pub values : List ℤ
  pub made : ℕ
  pub redone : ℕ
  pub capacities : List ℕ

-- the capacities of both
abbrev pub capacities_of : Variables → BlockSystem → List ℕ
capacities_of v s = capacities_of_variables v ++ capacities_of_system s

-- the control stands for the records, newest first
pub record StandsFor (s : HeldControl) (H : List StepRecord) : Type 0 where
  pub blocks : BlocksStandFor s.blocks H
  pub devices : DevicesStandFor s.devices H
  pub devices_count : length (latest H).devices ≡ length s.case.extras
  -- what it shows
  pub values : s.values ≡ (latest H).values
  -- the factor is that of the last step's matrix
  pub kept : s.kept.rows ≡ last_control_matrix s.case H
  pub kept_size : s.kept.size ≡ length s.case.blocks
  -- the steps, and the rows redone in them
  pub steps : s.made + 1 ≡ length H
  pub redone : s.redone ≡ control_redone s.case H

-- what a step answers and leaves: the control's part of the next record, whatever its network part, or the fault
abbrev pub StepsTo : Result (Unit {0}) TacsFault → HeldControl → List StepRecord → Result ControlPart TacsFault → Type 0
StepsTo (Ok u) s H (Ok part) = (r : StepRecord) → control_of r ≡ part → StandsFor s (r ∷ H)
StepsTo (Ok u) s H (Err fault) = ⊥
StepsTo (Err e) s H (Ok part) = ⊥
StepsTo (Err e) s H (Err fault) = (e ≡ fault) × (s.redone ≡ control_redone s.case H + control_step_redone s.case H)

-- a step is made or ends by what is defined, for all records for which the control stood
abbrev pub MakesStep : Result (Unit {0}) TacsFault → HeldControl → HeldControl → Measured → Type 0
MakesStep result old new m = (H : List StepRecord) → StandsFor old H → StepsTo result new H (control_step old.case H m)

-- a step eliminates as many rows as change where it is made, and never more
pub record HasEliminated (result : Result (Unit {0}) TacsFault) (case : Parts) (H : List StepRecord)
    (before after : ℕ) : Type 0 where
  pub made : OnOk result (after ≡ before + control_step_ticks case H)
  pub most : after ≤ before + control_step_ticks case H

abbrev pub TicksStep : Result (Unit {0}) TacsFault → HeldControl → ℕ → ℕ → Type 0
TicksStep result old before after = (H : List StepRecord) → StandsFor old H → HasEliminated result old.case H before after

-- a step is counted however it ends, and neither redoes nor eliminates more rows than there may be
pub record HasCounted (old new : HeldControl) (before after : ℕ) : Type 0 where
  pub case : new.case ≡ old.case
  pub made : new.made ≡ old.made + 1
  pub few : new.redone ≤ old.redone + MOST_CONTROL_CARDS
  pub few_ticks : after ≤ before + MOST_CONTROL_CARDS

-- the steps are no more than the case has, and each redoes no more rows than there are
pub record AreFew (case : Parts) (made redone : ℕ) : Type 0 where
  pub made_few : made ≤ case.run.steps
  pub redone_few : redone ≤ MOST_CONTROL_CARDS * made

-- how the fields hold together
pub record HoldsTogether (case : Parts) (variables : Variables) (system : BlockSystem) (made : ℕ) : Type 0 where
  pub variables_hold : HoldsVariables case variables
  pub system_holds : HoldsSystem case system
  pub few : AreFew case made system.redone
