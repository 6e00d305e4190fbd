-- What a network with its control stands for, and how a step moves it. No clause of the program reaches it.
use Rattle.std.specs.Prelude.{◌≡◌, ◌+◌, ◌<◌, ◌∷◌, ◌++◌, ℕ, List, Result, Ok, Err}
use Rattle.emtp_case.specs.StepRecord.{StepRecord}
use Rattle.emtp_case.specs.declared.case.Parts.{Parts}
use Rattle.emtp_machine.specs.History.{end_at, redone_by, rows_redone}
use Rattle.emtp_machine.specs.Next.{Fault}
use Rattle.emtp_machine.specs.declared.controlled.ControlledNetwork.{ControlledNetwork}
use Rattle.emtp_machine.specs.declared.end.End.{End}
use Rattle.emtp_net.specs.held.Network.{StandsFor as NetworkStandsFor}
use Rattle.emtp_tacs.specs.held.Tacs.{StandsFor as ControlStandsFor}

-- the network and the control are of this case
pub record IsOf (case : Parts) (s : ControlledNetwork) : Type 0 where
  pub network : s.network.case ≡ case
  pub control : s.control.case ≡ case

-- a step is left
pub record MayMove (case : Parts) (s : ControlledNetwork) : Type 0 where
  pub network : s.network.made < case.run.steps
  pub control : s.control.made < case.run.steps

-- both stand for the records, newest first
pub record StandsFor (s : ControlledNetwork) (H : List StepRecord) : Type 0 where
  pub network : NetworkStandsFor s.network H
  pub control : ControlStandsFor s.control H

-- the capacities of the lists that a step of each of them writes
abbrev pub capacities_of : ControlledNetwork → List ℕ
capacities_of s = s.network.capacities ++ s.control.capacities

-- the rows redone in both
abbrev pub redone_of : ControlledNetwork → ℕ
redone_of s = s.network.redone + s.control.redone

-- the step after the records ends with this fault
pub record Stops (case : Parts) (s : ControlledNetwork) (step : ℕ) (H : List StepRecord) (end : End)
    (fault : Fault) : Type 0 where
  pub end_is : end ≡ end_at step fault
  pub redone_is : redone_of s ≡ rows_redone case H + redone_by fault.cause case H

-- what a step answers and leaves: the next record, or the end
abbrev pub StepsTo : Result (Unit {0}) End → Parts → ControlledNetwork → ℕ → List StepRecord → Result StepRecord Fault → Type 0
StepsTo (Ok u) case s step H (Ok r) = StandsFor s (r ∷ H)
StepsTo (Ok u) case s step H (Err fault) = ⊥
StepsTo (Err end) case s step H (Ok r) = ⊥
StepsTo (Err end) case s step H (Err fault) = Stops case s step H end fault
