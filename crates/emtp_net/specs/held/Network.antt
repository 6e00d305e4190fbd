-- What a network stands for.
use Rattle.emtp_case.specs.declared.limit.TheConstants.{MOST_NODES}
use Rattle.std.specs.Prelude.{◌≡◌, ◌+◌, ◌≤◌, ◌∷◌, ℕ, ℤ, Bool, List, length, map, OnOk, Result, Ok, Err}
use Rattle.emtp_case.specs.StepRecord.{StepRecord, is_closed, latest}
use Rattle.emtp_case.specs.declared.case.Parts.{Parts}
use Rattle.emtp_rows.specs.held.Touched.{NodalRows}
use Rattle.emtp_switch.specs.held.Switching as switching
use Rattle.emtp_tail.specs.held.Good.{Good}
use Rattle.emtp_net.specs.held.Branches.{StandsFor as BranchesStandFor}
use Rattle.emtp_net.specs.held.Moving.{AreCurrents, AreLineCurrents}
use Rattle.emtp_net.specs.Part.{NetworkPart}
use Rattle.emtp_net.specs.held.Part.{network_of}
use Rattle.emtp_net.specs.Redone.{net_redone}
use Rattle.emtp_net.specs.held.Redone.{last_matrix, step_ticks}
use Rattle.emtp_net.specs.held.Stages.{step_adds}
use Rattle.emtp_net.specs.Step.{network_part}
use Rattle.emtp_net.specs.declared.branches.Branches.{Branches}
use Rattle.emtp_net.specs.declared.fault.NetFault.{NetFault}
use Rattle.emtp_net.specs.declared.fault.NetFault.TheVariants.{Tied}

-- what a contract sees of a network; the capacities are those of the lists of its own that a step writes
pub record Net : Type 0 where
  pub case : Parts
  pub branches : Branches
  pub switches : switching.Switching
  pub rows : NodalRows
  pub kept : Good
  pub voltages : List ℤ
  pub currents : List ℤ
  pub switch_currents : List ℤ
  pub closed : List Bool
  pub made : ℕ
  pub redone : ℕ
  pub capacities : List ℕ

-- the network stands for the records, newest first
pub record StandsFor (s : Net) (H : List StepRecord) : Type 0 where
  -- each branch and each switch
  pub branches : BranchesStandFor s.branches H
  pub switches : switching.StandsFor s.switches H
  -- what it shows
  pub voltages : s.voltages ≡ (latest H).voltages
  pub currents : AreCurrents s.case s.currents (latest H) (length s.case.branches)
  pub line_currents : AreLineCurrents s.case (latest H)
  pub switch_currents : s.switch_currents ≡ (latest H).switch_currents
  pub closed : s.closed ≡ map is_closed (latest H).switch_states
  -- the factor is that of the last step's matrix
  pub kept : s.kept.rows ≡ last_matrix s.case H
  pub kept_size : s.kept.size ≡ length s.case.nodes
  -- the steps, and the rows redone in them
  pub steps : s.made + 1 ≡ length H
  pub redone : s.redone ≡ net_redone s.case H

-- the network stands for the records, and these are the control's values of the last one
pub record StandsWith (s : Net) (tacs : List ℤ) (H : List StepRecord) : Type 0 where
  pub network : StandsFor s H
  pub control : tacs ≡ (latest H).values

-- what a step answers and leaves: the network's part of the next record, whatever its control part, or the fault
abbrev pub StepsTo : Result (Unit {0}) NetFault → Net → List StepRecord → Result NetworkPart NetFault → Type 0
StepsTo (Ok u) s H (Ok part) = (r : StepRecord) → network_of r ≡ part → StandsFor s (r ∷ H)
StepsTo (Ok u) s H (Err fault) = ⊥
StepsTo (Err e) s H (Ok part) = ⊥
StepsTo (Err e) s H (Err fault) = (e ≡ fault) × (s.redone ≡ net_redone s.case H + step_adds fault s.case H)

-- a step is made or ends by what is defined, for all records for which the network stood with the control's values
abbrev pub MakesStep : Result (Unit {0}) NetFault → Net → Net → List ℤ → Type 0
MakesStep result old new tacs = (H : List StepRecord) → StandsWith old tacs H → StepsTo result new H (network_part old.case H)

-- A step eliminates as many rows as change where it is made, never more, and none where its switches tie two known
-- voltages.
pub record HasEliminated (result : Result (Unit {0}) NetFault) (case : Parts) (H : List StepRecord)
    (before after : ℕ) : Type 0 where
  pub made : OnOk result (after ≡ before + step_ticks case H)
  pub most : after ≤ before + step_ticks case H
  pub tied : (node : ℕ) → network_part case H ≡ Err (Tied node) → after ≡ before

abbrev pub TicksStep : Result (Unit {0}) NetFault → Net → List ℤ → ℕ → ℕ → Type 0
TicksStep result old tacs before after =
    (H : List StepRecord) → StandsWith old tacs H → HasEliminated result old.case H before after

-- a step is counted however it ends, and neither redoes nor eliminates more rows than there may be
pub record HasCounted (old new : Net) (before after : ℕ) : Type 0 where
  pub case : new.case ≡ old.case
  pub made : new.made ≡ old.made + 1
  pub few : new.redone ≤ old.redone + MOST_NODES
  pub few_ticks : after ≤ before + MOST_NODES
