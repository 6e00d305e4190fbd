-- Beside `Phases`: what values hold for their proofs, and what premises say. No clause of the program reaches it.
use Rattle.std.specs.Prelude.{◌∷◌, [], List, Option, Some, None, Result, Ok, Err, ℕ, ℤ}
use Rattle.emtp_case.specs.declared.branch.PhaseState.{PhaseState}
use Rattle.emtp_line.specs.declared.phase_end.PhaseEnd.{PhaseEnd}
use Rattle.emtp_line.specs.declared.phase_states.PhaseRange.{PhaseRange}
use Rattle.emtp_line.specs.Phases.{Modes, from_histories, to_histories, phase_end, phase_state}

-- all three, or the first phase that is out of range
abbrev pub three_of : Option PhaseState → Option PhaseState → Option PhaseState → Result (List PhaseState) PhaseRange
three_of None second third = Err (record { phase = 0 })
three_of (Some a) None third = Err (record { phase = 1 })
three_of (Some a) (Some b) None = Err (record { phase = 2 })
three_of (Some a) (Some b) (Some c) = Ok (a ∷ b ∷ c ∷ [])

-- what a record keeps of the three phases
abbrev pub three_states : PhaseEnd → PhaseEnd → Result (List PhaseState) PhaseRange
three_states from to = three_of (phase_state from to 0) (phase_state from to 1) (phase_state from to 2)

-- what the next record keeps of them at the voltages v of `from` and w of `to`, or the first phase that is out of range
abbrev pub next_phases : Modes → (ℕ → List PhaseState) → List ℤ → List ℤ → Result (List PhaseState) PhaseRange
next_phases m past v w = three_states (phase_end m (from_histories m past) v) (phase_end m (to_histories m past) w)
