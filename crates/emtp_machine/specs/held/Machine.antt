-- What a machine stands for. No clause of the program reaches it.
use Rattle.std.specs.Prelude.{◌≡◌, ◌⊎◌, ◌≢◌, ◌∷◌, ℕ, ◌+◌, ◌*◌, ◌<◌, ◌≤◌, ℤ, List, length, Option, Some, None, IfSome, Result, Ok, Err}
use Rattle.emtp_case.specs.RunData.{samples_of}
use Rattle.emtp_case.specs.declared.case.Parts.{Parts}
use Rattle.emtp_machine.specs.held.Controlled.{IsOf, StandsFor, capacities_of, redone_of}
use Rattle.emtp_machine.specs.History.{History, history_upto, redone, samples}
use Rattle.emtp_machine.specs.held.History.{ticks}
use Rattle.emtp_machine.specs.held.Samples.{Sampled}
use Rattle.emtp_machine.specs.declared.controlled.ControlledNetwork.{ControlledNetwork}
use Rattle.emtp_machine.specs.declared.end.End.{End}
use Rattle.emtp_machine.specs.Machine.{IsEnd}

-- what a contract sees of a machine: its case, how many steps were tried, the one that ended the run among them, and the
-- capacities of the lists that a step writes
pub record Progress : Type 0 where
  pub case : Parts
  pub tried : ℕ
  pub capacities : List ℕ

-- what the machine stands for: the records of its steps, and the end if it came
abbrev pub history_of : Progress → History
history_of m = history_upto m.case m.tried

-- a step may be tried: the end came, or a step is left
abbrev pub MayStep : Progress → Type 0
MayStep m = ((history_of m).end ≢ None) ⊎ (m.tried < m.case.run.steps)

-- what a step answers, where the history ends so
abbrev pub answer_of : Option End → Result (Unit {0}) End
answer_of None = Ok tt
answer_of (Some end) = Err end

-- between two moments of a machine the rows of its steps were eliminated: at most so many where the run ended
pub record HasTicked (m n : Progress) (before now : ℕ) : Type 0 where
  pub most : now + ticks m.case (history_of m) ≤ before + ticks n.case (history_of n)
  pub all : (history_of n).end ≡ None → now + ticks m.case (history_of m) ≡ before + ticks n.case (history_of n)

-- the steps tried: those made, and the one that ended the run
abbrev pub tried_of : ℕ → Option End → ℕ
tried_of made None = made
tried_of made (Some end) = made + 1

-- the capacities of the room for a sample, of the samples, and of what network and control write in a step
abbrev pub capacities_of_machine : ControlledNetwork → ℕ → Sampled → List ℕ
capacities_of_machine network row s = row ∷ s.capacity ∷ capacities_of network

-- the samples are those of the history, and there is room for the others
pub record AreSamples (case : Parts) (row : List ℤ) (s : Sampled) (made : ℕ) (h : History) : Type 0 where
  pub width : length row ≡ length case.channels
  pub channels : s.channels ≡ length case.channels
  pub room : s.room ≡ samples_of case.run
  pub sampled : s.rows ≡ samples case h
  pub few : length s.rows * case.run.every ≤ made + case.run.every

-- the machine has made so many steps of the history, of which this is the end; after the end nothing reads the network or
-- the control
pub record IsMachine (case : Parts) (network : ControlledNetwork) (row : List ℤ) (s : Sampled) (made : ℕ)
    (end : Option End) (h : History) : Type 0 where
  pub case_is : IsOf case network
  pub running : end ≡ None → StandsFor network h.records
  pub samples_are : AreSamples case row s made h
  pub ended : h.end ≡ end
  pub count : length h.records ≡ made + 1
  pub few : tried_of made end ≤ case.run.steps
  pub redone_is : redone_of network ≡ redone case h
  pub names : IfSome end (IsEnd case)
