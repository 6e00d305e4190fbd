-- The states of a series branch in the records, newest first, and the next one.
use Rattle.std.specs.Prelude.{◌∷◌, [], ℕ, ℤ, List, map, Option}
use Rattle.emtp_case.specs.StepRecord.{StepRecord, no_lumped, lumped_at}
use Rattle.emtp_case.specs.declared.branch.Lumped.{Lumped}
use Rattle.emtp_case.specs.declared.branch.LumpedState.{LumpedState}
use Rattle.emtp_case.specs.declared.case.Parts.{Parts}
use Rattle.emtp_lumped.specs.Companion.{companion_of}
use Rattle.emtp_lumped.specs.Step.{next_state}

-- ---- records

-- the newest of what the records keep of a branch; all 0 before the first
abbrev pub newest : List LumpedState → LumpedState
newest [] = no_lumped
newest (s ∷ past) = s

-- what the records keep of a branch, newest first
abbrev pub states_of : ℕ → List StepRecord → List LumpedState
states_of b H = map (lumped_at b) H

-- what the next record keeps of a series branch at a branch voltage, after this past
abbrev pub next_of : Parts → Lumped → List LumpedState → ℤ → Option LumpedState
next_of case x past v = next_state (companion_of case.run.dt x) (newest past) v
