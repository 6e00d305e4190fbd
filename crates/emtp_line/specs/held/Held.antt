-- What is held of a line, of a phase, and of a three-phase line between two steps.
use Rattle.std.specs.Prelude.{◌≡◌, ◌≤◌, ◌+ℤ◌, ◌==◌, ◌∷◌, [], if◌then◌else◌, unsigned_abs, pos, slice_index_or, List, Option, Some, Result, Ok, ℕ, ℤ}
use Rattle.emtp_case.specs.StepRecord.{no_line, no_phase}
use Rattle.emtp_case.specs.declared.branch.LineState.{LineState}
use Rattle.emtp_case.specs.declared.branch.PhaseState.{PhaseState}
use Rattle.emtp_case.specs.declared.branch.Trio.{Trio}
use Rattle.emtp_fix.specs.declared.limit.TheConstants.{LARGEST_ENTRY, LARGEST_VALUE}
use Rattle.emtp_line.specs.Line.{from_waves, to_waves}
use Rattle.emtp_line.specs.Phases.{Modes, modes_of, mode_of_trio, own_conductance, mutual_conductance, phase_from_waves, phase_to_waves, zero_from_waves, zero_to_waves}
use Rattle.emtp_line.specs.held.Waves.{IsWaves, WavesStand, waves_at_rest}
use Rattle.emtp_line.specs.declared.held.HeldLine.{HeldLine}
use Rattle.emtp_line.specs.declared.held_trio.HeldTrio.{HeldTrio}
use Rattle.emtp_line.specs.declared.mode.Mode.{Mode}
use Rattle.emtp_line.specs.declared.phase_states.PhaseRange.{PhaseRange}

-- ---- a line

-- the newest of what the records keep of a branch; all 0 before the first
abbrev pub newest : List LineState → LineState
newest [] = no_line
newest (s ∷ past) = s

pub record IsHeld (x : HeldLine) : Type 0 where
  pub waves : IsWaves x.waves
  pub from_small : unsigned_abs x.from_current ≤ LARGEST_VALUE
  pub to_small : unsigned_abs x.to_current ≤ LARGEST_VALUE

-- what is held of a line stands for what the records keep of it, newest first
pub record LineStands (x : HeldLine) (past : List LineState) : Type 0 where
  pub from_current : x.from_current ≡ (newest past).from_current
  pub to_current : x.to_current ≡ (newest past).to_current
  pub waves : WavesStand x.waves (from_waves past) (to_waves past)

abbrev pub held_at_rest : Mode → HeldLine
held_at_rest m = record { waves = waves_at_rest m; from_current = pos 0; to_current = pos 0 }

-- A line moved by one step: there is a next state, its current is the answer, and it is the newest of what the line
-- stands for.
pub record LineMoved (new : HeldLine) (past : List LineState) (next : Option LineState) (i : ℤ) : Type 0 where
  pub state : LineState
  pub is : next ≡ Some state
  pub current : i ≡ state.from_current
  pub stands : LineStands new (state ∷ past)

-- ---- a three-phase line

abbrev pub newest_phase : List PhaseState → PhaseState
newest_phase [] = no_phase
newest_phase (s ∷ past) = s

-- a phase holds its currents and the waves of the positive sequence
pub record PhaseStands (x : HeldLine) (past : List PhaseState) : Type 0 where
  pub from_current : x.from_current ≡ (newest_phase past).from_current
  pub to_current : x.to_current ≡ (newest_phase past).to_current
  pub waves : WavesStand x.waves (phase_from_waves past) (phase_to_waves past)

abbrev pub held_modes : HeldTrio → Modes
held_modes x = record { zero_sequence = x.zero_sequence.mode; positive = x.first.waves.mode }

-- the phases have one mode, and the conductances are those of the modes
pub record IsHeldTrio (x : HeldTrio) : Type 0 where
  pub zero_sequence : IsWaves x.zero_sequence
  pub first : IsHeld x.first
  pub second : IsHeld x.second
  pub third : IsHeld x.third
  pub second_mode : x.second.waves.mode ≡ x.first.waves.mode
  pub third_mode : x.third.waves.mode ≡ x.first.waves.mode
  pub own : x.own ≡ own_conductance (held_modes x)
  pub coupling : x.coupling ≡ mutual_conductance (held_modes x)
  pub own_small : unsigned_abs x.own ≤ LARGEST_ENTRY
  pub coupling_small : unsigned_abs x.coupling ≤ LARGEST_ENTRY

-- what is held of a three-phase line stands for what the records keep of phase p, `past p`
pub record TrioStands (x : HeldTrio) (past : ℕ → List PhaseState) : Type 0 where
  pub zero_sequence : WavesStand x.zero_sequence (zero_from_waves (past 0)) (zero_to_waves (past 0))
  pub first : PhaseStands x.first (past 0)
  pub second : PhaseStands x.second (past 1)
  pub third : PhaseStands x.third (past 2)

-- what is held of a phase
abbrev pub phase_held : HeldTrio → ℕ → HeldLine
phase_held x p = if p == 0 then x.first else if p == 1 then x.second else x.third

-- the history currents of the three phases, of what both sequences hold
abbrev pub held_from_histories : HeldTrio → List ℤ
held_from_histories x =
    (x.zero_sequence.from_history +ℤ x.first.waves.from_history)
    ∷ (x.zero_sequence.from_history +ℤ x.second.waves.from_history)
    ∷ (x.zero_sequence.from_history +ℤ x.third.waves.from_history) ∷ []

abbrev pub held_to_histories : HeldTrio → List ℤ
held_to_histories x =
    (x.zero_sequence.to_history +ℤ x.first.waves.to_history)
    ∷ (x.zero_sequence.to_history +ℤ x.second.waves.to_history)
    ∷ (x.zero_sequence.to_history +ℤ x.third.waves.to_history) ∷ []

abbrev pub trio_at_rest : ℤ → Trio → HeldTrio
trio_at_rest dt t = record {
  own = own_conductance (modes_of dt t);
  coupling = mutual_conductance (modes_of dt t);
  zero_sequence = waves_at_rest (mode_of_trio dt t 0);
  first = held_at_rest (mode_of_trio dt t 1);
  second = held_at_rest (mode_of_trio dt t 1);
  third = held_at_rest (mode_of_trio dt t 1);
}

-- the record of a phase among those of three
abbrev pub state_at : List PhaseState → ℕ → PhaseState
state_at states p = slice_index_or states p no_phase

-- their currents at `from`, which are the branch currents
abbrev pub currents_of : List PhaseState → List ℤ
currents_of states = (state_at states 0).from_current ∷ (state_at states 1).from_current ∷ (state_at states 2).from_current ∷ []

-- what the records keep of the phases after one more step
abbrev pub with_states : List PhaseState → (ℕ → List PhaseState) → ℕ → List PhaseState
with_states states past p = state_at states p ∷ past p

-- A three-phase line moved by one step: there are three next states, their currents are the answer, and they are the
-- newest of what the line stands for.
pub record TrioMoved (new : HeldTrio) (past : ℕ → List PhaseState) (next : Result (List PhaseState) PhaseRange)
    (i : List ℤ) : Type 0 where
  pub states : List PhaseState
  pub is : next ≡ Ok states
  pub currents : i ≡ currents_of states
  pub stands : TrioStands new (with_states states past)
