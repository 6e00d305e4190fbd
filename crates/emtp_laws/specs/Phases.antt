-- A three-phase line that is put in the other way round, and one whose phases have other numbers. Each order of three phases comes from these two changes, one after the
-- other.
use Rattle.std.specs.Prelude.{◌≡◌, ◌+◌, ◌-◌, ◌%◌, ◌∷◌, [], List, Result, Ok, Err, map, ℕ, ℤ}
use Rattle.emtp_case.specs.declared.branch.PhaseState.{PhaseState}
use Rattle.emtp_line.specs.Phases.{Modes, from_histories, of_phase, phase_currents, phase_from_waves, phase_to_waves, phase_waves, to_histories, zero_from_waves, zero_to_waves, zero_wave}
use Rattle.emtp_line.specs.held.Phases.{next_phases}
use Rattle.emtp_line.specs.declared.phase_states.PhaseRange.{PhaseRange}

-- what is kept of a phase, seen from the other end
abbrev pub reversed_phase : PhaseState → PhaseState
reversed_phase s = record {
  from_current = s.to_current;
  to_current = s.from_current;
  from_wave = s.to_wave;
  to_wave = s.from_wave;
  from_zero_wave = s.to_zero_wave;
  to_zero_wave = s.from_zero_wave;
}

-- the next step of a line, seen from the other end; the first phase that is out of range is the same
abbrev pub reversed_phases : Result (List PhaseState) PhaseRange → Result (List PhaseState) PhaseRange
reversed_phases (Ok states) = Ok (map reversed_phase states)
reversed_phases (Err out) = Err out

-- with the voltages of its ends exchanged each phase has at each end what it had at the other
abbrev pub AnswersReversed : Modes → Type 0
AnswersReversed m =
    (past : ℕ → List PhaseState) (v w : List ℤ)
    → next_phases m (λ p. map reversed_phase (past p)) w v ≡ reversed_phases (next_phases m past v w)

-- a new number of the phases: which phase of before each of them is
pub record Renumbering : Type 0 where
  pub before : ℕ → ℕ

-- each phase is the next one of before
abbrev pub cycled : Renumbering
cycled = record { before = λ p. (p + 1) % 3 }

-- phases 1 and 2 change places
abbrev pub exchanged : Renumbering
exchanged = record { before = λ p. (3 - p) % 3 }

-- a number a phase, by the new numbers
abbrev pub renumbered : Renumbering → List ℤ → List ℤ
renumbered n xs = of_phase xs (n.before 0) ∷ of_phase xs (n.before 1) ∷ of_phase xs (n.before 2) ∷ []

-- What the records keep of the phases by the new numbers. The waves of the zero sequence stand with phase 0, whichever it is.
pub record KeepsRenumbered (n : Renumbering) (past new : ℕ → List PhaseState) : Type 0 where
  pub from_waves : (p : ℕ) → phase_from_waves (new p) ≡ phase_from_waves (past (n.before p))
  pub to_waves : (p : ℕ) → phase_to_waves (new p) ≡ phase_to_waves (past (n.before p))
  pub zero_from : zero_from_waves (new 0) ≡ zero_from_waves (past 0)
  pub zero_to : zero_to_waves (new 0) ≡ zero_to_waves (past 0)

-- An end with these history currents and the voltages by the new numbers has its currents and waves by them, as it had them with
-- those history currents; the wave of the zero sequence belongs to no phase.
pub record AnswersRenumbered (n : Renumbering) (m : Modes) (before new v : List ℤ) : Type 0 where
  pub currents : phase_currents m new (renumbered n v) ≡ renumbered n (phase_currents m before v)
  pub waves : phase_waves m (renumbered n v) (phase_currents m new (renumbered n v))
      ≡ renumbered n (phase_waves m v (phase_currents m before v))
  pub zero_sequence : zero_wave m (renumbered n v) (phase_currents m new (renumbered n v))
      ≡ zero_wave m v (phase_currents m before v)

-- so do both ends in a step after these records, whatever their voltages are
pub record AnswersAtBothEnds (n : Renumbering) (m : Modes) (past new : ℕ → List PhaseState) : Type 0 where
  pub at_from : (v : List ℤ) → AnswersRenumbered n m (from_histories m past) (from_histories m new) v
  pub at_to : (v : List ℤ) → AnswersRenumbered n m (to_histories m past) (to_histories m new) v

-- a line of these modes answers by the new numbers, after whatever records
abbrev pub AnswersBy : Renumbering → Modes → Type 0
AnswersBy n m = (past new : ℕ → List PhaseState) → KeepsRenumbered n past new → AnswersAtBothEnds n m past new
