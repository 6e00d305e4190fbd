-- One step of all series branches of a case, one after the other.
use Rattle.std.specs.Prelude.{◌≡◌, ◌<◌, ℕ, ℤ, pos, ◌-ℤ◌, List, slice_index_or, IsSome, Option, Some, None}
use Rattle.emtp_case.specs.StepRecord.{StepRecord, lumped_at}
use Rattle.emtp_case.specs.declared.branch.Lumped.{Lumped}
use Rattle.emtp_case.specs.declared.branch.LumpedState.{LumpedState}
use Rattle.emtp_case.specs.declared.case.Parts.{Parts}
use Rattle.emtp_lumped.specs.Lumps.{next_of, states_of}
use Rattle.emtp_lumped.specs.held.Lumps.{Lumping, IsSeries, HasMoved}

-- the voltage of a branch at voltages by node, ground first
abbrev pub voltage_of : Lumped → List ℤ → ℤ
voltage_of x voltages = slice_index_or voltages x.from (pos 0) -ℤ slice_index_or voltages x.to (pos 0)

-- what the next record keeps of a series branch
abbrev pub next_at : Parts → List StepRecord → List ℤ → ℕ → Lumped → Option LumpedState
next_at case H voltages b x = next_of case x (states_of b H) (voltage_of x voltages)

-- a record that keeps of each series branch what comes next
abbrev pub IsNext : Parts → List StepRecord → List ℤ → StepRecord → Type 0
IsNext case H voltages r = (b : ℕ) (x : Lumped) → IsSeries case b x → next_at case H voltages b x ≡ Some (lumped_at b r)

-- each series branch before n moved, and its current was written
abbrev pub HaveMoved : Parts → List StepRecord → List ℤ → Lumping → List ℤ → ℕ → Type 0
HaveMoved case H voltages new currents n =
    (b : ℕ) (x : Lumped) → b < n → IsSeries case b x
    → HasMoved new b (states_of b H) (next_at case H voltages b x) (slice_index_or currents b (pos 0))

-- the first series branch that has no next state
pub record IsFirstOut (case : Parts) (H : List StepRecord) (voltages : List ℤ) (b : ℕ) : Type 0 where
  pub branch : Lumped
  pub series : IsSeries case b branch
  pub out : next_at case H voltages b branch ≡ None
  pub before : (k : ℕ) (x : Lumped) → k < b → IsSeries case k x → IsSome (next_at case H voltages k x)
