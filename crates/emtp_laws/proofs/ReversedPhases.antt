-- A three-phase line answers alike from both ends.
use Rattle.std.proofs.Common.{◌≡◌, ◌∙◌, ◌+ℤ◌, ℕ, ℤ, List, map, Option, Some, None, option_map, refl, ap}
use Rattle.std.proofs.lemmas.Simd.{map-map}
use Rattle.emtp_case.specs.declared.branch.PhaseState.{PhaseState}
use Rattle.emtp_fix.specs.Limit.{◌>>=◌, in_range}
use Rattle.emtp_line.proofs.Bounds.{three_same}
use Rattle.emtp_line.specs.Phases.{Modes, from_histories, of_phase, phase_end, phase_from_history, phase_from_waves, phase_state, phase_to_history, phase_to_waves, to_histories, zero_from_waves, zero_to_waves, zero_wave_at}
use Rattle.emtp_line.specs.held.Phases.{next_phases, three_of, three_states}
use Rattle.emtp_line.specs.Wave.{history_of}
use Rattle.emtp_laws.specs.Phases.{reversed_phase, reversed_phases}

-- ---- the past

abbrev summed : Modes → List ℤ → List ℤ → List ℤ → List ℤ → ℤ
summed m a b c d = history_of m.zero_sequence a b +ℤ history_of m.positive c d

from_to : (m : Modes) (first past : List PhaseState) → phase_from_history m (map reversed_phase first) (map reversed_phase past) ≡ phase_to_history m first past
from_to m first past =
    ap (λ a. summed m a (zero_from_waves (map reversed_phase first)) (phase_to_waves (map reversed_phase past)) (phase_from_waves (map reversed_phase past))) (map-map (λ (s : PhaseState). s.to_zero_wave) reversed_phase first)
    ∙ ap (λ b. summed m (zero_from_waves first) b (phase_to_waves (map reversed_phase past)) (phase_from_waves (map reversed_phase past))) (map-map (λ (s : PhaseState). s.from_zero_wave) reversed_phase first)
    ∙ ap (λ c. summed m (zero_from_waves first) (zero_to_waves first) c (phase_from_waves (map reversed_phase past))) (map-map (λ (s : PhaseState). s.to_wave) reversed_phase past)
    ∙ ap (λ d. summed m (zero_from_waves first) (zero_to_waves first) (phase_from_waves past) d) (map-map (λ (s : PhaseState). s.from_wave) reversed_phase past)

to_from : (m : Modes) (first past : List PhaseState) → phase_to_history m (map reversed_phase first) (map reversed_phase past) ≡ phase_from_history m first past
to_from m first past =
    ap (λ a. summed m a (zero_to_waves (map reversed_phase first)) (phase_from_waves (map reversed_phase past)) (phase_to_waves (map reversed_phase past))) (map-map (λ (s : PhaseState). s.from_zero_wave) reversed_phase first)
    ∙ ap (λ b. summed m (zero_to_waves first) b (phase_from_waves (map reversed_phase past)) (phase_to_waves (map reversed_phase past))) (map-map (λ (s : PhaseState). s.to_zero_wave) reversed_phase first)
    ∙ ap (λ c. summed m (zero_to_waves first) (zero_from_waves first) c (phase_to_waves (map reversed_phase past))) (map-map (λ (s : PhaseState). s.from_wave) reversed_phase past)
    ∙ ap (λ d. summed m (zero_to_waves first) (zero_from_waves first) (phase_to_waves past) d) (map-map (λ (s : PhaseState). s.to_wave) reversed_phase past)

from_past : (m : Modes) (past : ℕ → List PhaseState) → from_histories m (λ p. map reversed_phase (past p)) ≡ to_histories m past
from_past m past = three_same (from_to m (past 0) (past 0)) (from_to m (past 0) (past 1)) (from_to m (past 0) (past 2))

to_past : (m : Modes) (past : ℕ → List PhaseState) → to_histories m (λ p. map reversed_phase (past p)) ≡ from_histories m past
to_past m past = three_same (to_from m (past 0) (past 0)) (to_from m (past 0) (past 1)) (to_from m (past 0) (past 2))

-- ---- a phase

abbrev state_from : Option ℤ → Option ℤ → Option ℤ → Option ℤ → Option ℤ → Option ℤ → Option PhaseState
state_from oi ok ow ou ow0 ou0 = do
  i ← oi
  k ← ok
  w ← ow
  u ← ou
  w0 ← ow0
  u0 ← ou0
  Some (record { from_current = i; to_current = k; from_wave = w; to_wave = u; from_zero_wave = w0; to_zero_wave = u0 })

either_end : (i k w u w0 u0 : Option ℤ) → state_from k i u w u0 w0 ≡ option_map reversed_phase (state_from i k w u w0 u0)
either_end None None w u w0 u0 = refl
either_end None (Some k) w u w0 u0 = refl
either_end (Some i) None w u w0 u0 = refl
either_end (Some i) (Some k) None None w0 u0 = refl
either_end (Some i) (Some k) None (Some u) w0 u0 = refl
either_end (Some i) (Some k) (Some w) None w0 u0 = refl
either_end (Some i) (Some k) (Some w) (Some u) None None = refl
either_end (Some i) (Some k) (Some w) (Some u) None (Some u0) = refl
either_end (Some i) (Some k) (Some w) (Some u) (Some w0) None = refl
either_end (Some i) (Some k) (Some w) (Some u) (Some w0) (Some u0) = refl

phase_reversed : (m : Modes) (h k v w : List ℤ) (p : ℕ) → phase_state (phase_end m k w) (phase_end m h v) p ≡ option_map reversed_phase (phase_state (phase_end m h v) (phase_end m k w) p)
unfolding phase_state
phase_reversed m h k v w p =
    let a = phase_end m h v in
    let b = phase_end m k w in
    either_end (in_range (of_phase a.currents p)) (in_range (of_phase b.currents p)) (in_range (of_phase a.waves p)) (in_range (of_phase b.waves p)) (in_range (zero_wave_at p a.zero_wave)) (in_range (zero_wave_at p b.zero_wave))

-- ---- all three

all_reversed : (a b c : Option PhaseState) → three_of (option_map reversed_phase a) (option_map reversed_phase b) (option_map reversed_phase c) ≡ reversed_phases (three_of a b c)
all_reversed None b c = refl
all_reversed (Some x) None c = refl
all_reversed (Some x) (Some y) None = refl
all_reversed (Some x) (Some y) (Some z) = refl

ends_reversed : (m : Modes) (h k v w : List ℤ) → three_states (phase_end m k w) (phase_end m h v) ≡ reversed_phases (three_states (phase_end m h v) (phase_end m k w))
ends_reversed m h k v w =
    let a = phase_end m h v in
    let b = phase_end m k w in
    ap (λ x. three_of x (phase_state b a 1) (phase_state b a 2)) (phase_reversed m h k v w 0)
    ∙ ap (λ y. three_of (option_map reversed_phase (phase_state a b 0)) y (phase_state b a 2)) (phase_reversed m h k v w 1)
    ∙ ap (λ z. three_of (option_map reversed_phase (phase_state a b 0)) (option_map reversed_phase (phase_state a b 1)) z) (phase_reversed m h k v w 2)
    ∙ all_reversed (phase_state a b 0) (phase_state a b 1) (phase_state a b 2)

pub phases_reversed : (m : Modes) (past : ℕ → List PhaseState) (v w : List ℤ) → next_phases m (λ p. map reversed_phase (past p)) w v ≡ reversed_phases (next_phases m past v w)
phases_reversed m past v w =
    ap (λ hs. three_states (phase_end m hs w) (phase_end m (to_histories m (λ p. map reversed_phase (past p))) v)) (from_past m past)
    ∙ ap (λ hs. three_states (phase_end m (to_histories m past) w) (phase_end m hs v)) (to_past m past)
    ∙ ends_reversed m (from_histories m past) (to_histories m past) v w
