-- The moments of a pseudo-nonlinear branch in the records, newest first, and its next state.
use Rattle.std.specs.Prelude.{◌∷◌, [], ◌-ℤ◌, ℕ, ℤ, List, map, Option}
use Rattle.emtp_case.specs.StepRecord.{StepRecord, pseudo_at, voltage_at}
use Rattle.emtp_case.specs.declared.branch.Pseudo.{Pseudo}
use Rattle.emtp_case.specs.declared.branch.PseudoState.{PseudoState}
use Rattle.emtp_case.specs.declared.case.Parts.{Parts}
use Rattle.emtp_pseudo.specs.Moment.{moment_at, segment_in}
use Rattle.emtp_pseudo.specs.Step.{history_current_of, moment_at_rest, next_state}
use Rattle.emtp_pseudo.specs.declared.moment.Moment.{Moment}
use Rattle.emtp_pseudo.specs.declared.segment.Segment.{Segment}

-- ---- records

-- what the record of a step says of a branch
abbrev pub moment_of : Pseudo → ℕ → StepRecord → Moment
moment_of x b r = moment_at (voltage_at x.from r -ℤ voltage_at x.to r) (pseudo_at b r)

-- what the records say of it, newest first
abbrev pub moments_of : Pseudo → ℕ → List StepRecord → List Moment
moments_of x b H = map (moment_of x b) H

-- the newest of them; all 0 before the first
abbrev pub newest : List Moment → Moment
newest [] = moment_at_rest
newest (m ∷ past) = m

-- the segment that the next step is on
abbrev pub present : Parts → Pseudo → List Moment → Segment
present case x past = segment_in case x (newest past).state.segment

-- J of the next step
abbrev pub next_history_current : Parts → Pseudo → List Moment → ℤ
next_history_current case x past = history_current_of x.reactor (present case x past) (newest past)

-- what the next record keeps of a branch at a branch voltage, after this past
abbrev pub next_of : Parts → Pseudo → List Moment → ℤ → Option PseudoState
next_of case x past v = next_state x.reactor case.run.dt (present case x past) (newest past) v
