-- One step of a transposed three-phase line, in terms of its zero sequence and its positive sequence. A list of three
-- numbers has one a phase.
use Rattle.std.specs.Prelude.{◌+◌, ◌%◌, ◌==◌, ◌+ℤ◌, ◌-ℤ◌, ◌*ℤ◌, ◌∷◌, [], if◌then◌else◌, pos, slice_index_or, map, List, Option, Some, ℕ, ℤ}
use Rattle.emtp_case.specs.declared.branch.PhaseState.{PhaseState}
use Rattle.emtp_case.specs.declared.branch.Trio.{Trio}
use Rattle.emtp_fix.specs.Limit.{in_range, ◌>>=◌}
use Rattle.emtp_fix.specs.Rounding.{near}
use Rattle.emtp_fix.specs.declared.limit.TheConstants.{PICO}
use Rattle.emtp_line.specs.Mode.{mode_of}
use Rattle.emtp_line.specs.Wave.{history_of, wave_of}
use Rattle.emtp_line.specs.declared.mode.Mode.{Mode}
use Rattle.emtp_line.specs.declared.phase_end.PhaseEnd.{PhaseEnd}

-- ---- the modes

pub record Modes : Type 0 where
  pub zero_sequence : Mode
  pub positive : Mode

-- mode 0 of a three-phase line is the zero sequence, mode 1 the positive one
abbrev pub mode_of_trio : ℤ → Trio → ℕ → Mode
mode_of_trio dt t m = mode_of dt (slice_index_or t.zc m (pos 0)) (slice_index_or t.r m (pos 0)) (slice_index_or t.delay m (pos 0))

abbrev pub modes_of : ℤ → Trio → Modes
modes_of dt t = record { zero_sequence = mode_of_trio dt t 0; positive = mode_of_trio dt t 1 }

-- gd = (g0 + 2*g1)/3, the conductance of a phase to ground and to the others together
abbrev pub own_conductance : Modes → ℤ
own_conductance m = near (m.zero_sequence.conductance +ℤ pos 2 *ℤ m.positive.conductance) (pos 3)

-- go = (g0 - g1)/3, the conductance from one phase to another
abbrev pub mutual_conductance : Modes → ℤ
mutual_conductance m = near (m.zero_sequence.conductance -ℤ m.positive.conductance) (pos 3)

-- ---- the past

-- the waves of the positive sequence that left a phase, from what the records keep of the phase
abbrev pub phase_from_waves : List PhaseState → List ℤ
phase_from_waves past = map (λ (s : PhaseState). s.from_wave) past

abbrev pub phase_to_waves : List PhaseState → List ℤ
phase_to_waves past = map (λ (s : PhaseState). s.to_wave) past

-- those of the zero sequence, from what they keep of phase 0
abbrev pub zero_from_waves : List PhaseState → List ℤ
zero_from_waves first = map (λ (s : PhaseState). s.from_zero_wave) first

abbrev pub zero_to_waves : List PhaseState → List ℤ
zero_to_waves first = map (λ (s : PhaseState). s.to_zero_wave) first

-- the history currents of a phase in the next step: what both sequences bring
abbrev pub phase_from_history : Modes → List PhaseState → List PhaseState → ℤ
phase_from_history m first past =
    history_of m.zero_sequence (zero_to_waves first) (zero_from_waves first)
    +ℤ history_of m.positive (phase_to_waves past) (phase_from_waves past)

abbrev pub phase_to_history : Modes → List PhaseState → List PhaseState → ℤ
phase_to_history m first past =
    history_of m.zero_sequence (zero_from_waves first) (zero_to_waves first)
    +ℤ history_of m.positive (phase_from_waves past) (phase_to_waves past)

-- those of all three phases, where `past p` is what the records keep of phase p
abbrev pub from_histories : Modes → (ℕ → List PhaseState) → List ℤ
from_histories m past =
    phase_from_history m (past 0) (past 0) ∷ phase_from_history m (past 0) (past 1)
    ∷ phase_from_history m (past 0) (past 2) ∷ []

abbrev pub to_histories : Modes → (ℕ → List PhaseState) → List ℤ
to_histories m past =
    phase_to_history m (past 0) (past 0) ∷ phase_to_history m (past 0) (past 1)
    ∷ phase_to_history m (past 0) (past 2) ∷ []

-- ---- one end

-- the number of a phase
abbrev pub of_phase : List ℤ → ℕ → ℤ
of_phase xs p = slice_index_or xs p (pos 0)

abbrev pub mean : List ℤ → ℤ
mean xs = near (of_phase xs 0 +ℤ of_phase xs 1 +ℤ of_phase xs 2) (pos 3)

-- i(p) = gd*v(p) + go*(v of the other two) + I(p)
abbrev pub phase_current : Modes → List ℤ → List ℤ → ℕ → ℤ
phase_current m histories v p =
    near (own_conductance m *ℤ of_phase v p +ℤ mutual_conductance m *ℤ of_phase v ((p + 1) % 3)
    +ℤ mutual_conductance m *ℤ of_phase v ((p + 2) % 3)) PICO +ℤ of_phase histories p

abbrev pub phase_currents : Modes → List ℤ → List ℤ → List ℤ
phase_currents m histories v = phase_current m histories v 0 ∷ phase_current m histories v 1 ∷ phase_current m histories v 2 ∷ []

-- w0, the wave of the means
abbrev pub zero_wave : Modes → List ℤ → List ℤ → ℤ
zero_wave m v i = wave_of m.zero_sequence (mean v) (mean i)

-- w1(p), the wave of what phase p is apart from the means
abbrev pub phase_wave : Modes → List ℤ → List ℤ → ℕ → ℤ
phase_wave m v i p = wave_of m.positive (of_phase v p -ℤ mean v) (of_phase i p -ℤ mean i)

abbrev pub phase_waves : Modes → List ℤ → List ℤ → List ℤ
phase_waves m v i = phase_wave m v i 0 ∷ phase_wave m v i 1 ∷ phase_wave m v i 2 ∷ []

-- the numbers of an end at these currents, whether or not they are in range
abbrev pub end_with : Modes → List ℤ → List ℤ → PhaseEnd
end_with m v i = record { currents = i; waves = phase_waves m v i; zero_wave = zero_wave m v i }

-- the numbers of an end at these history currents and voltages
abbrev pub phase_end : Modes → List ℤ → List ℤ → PhaseEnd
phase_end m histories v = end_with m v (phase_currents m histories v)

-- ---- both ends

-- phase 0 keeps the waves of the zero sequence
abbrev pub zero_wave_at : ℕ → ℤ → ℤ
zero_wave_at p w = if p == 0 then w else pos 0

-- what a record keeps of a phase; none where a number is out of range
unfoldable pub phase_state : PhaseEnd → PhaseEnd → ℕ → Option PhaseState
phase_state from to p = do
  i ← in_range (of_phase from.currents p)
  k ← in_range (of_phase to.currents p)
  w ← in_range (of_phase from.waves p)
  u ← in_range (of_phase to.waves p)
  w0 ← in_range (zero_wave_at p from.zero_wave)
  u0 ← in_range (zero_wave_at p to.zero_wave)
  Some (record { from_current = i; to_current = k; from_wave = w; to_wave = u; from_zero_wave = w0; to_zero_wave = u0 })
