-- A three-phase line whose phases have other numbers answers by these numbers.
use Rattle.std.proofs.Common.{◌≡◌, ◌∙◌, ap, sym, subst, refl, ℕ, ℤ, pos, ◌+ℤ◌, ◌*ℤ◌, List, [], ◌∷◌, arith}
use Rattle.std.proofs.lemmas.Int.{ints}
use Rattle.emtp_case.specs.declared.branch.PhaseState.{PhaseState}
use Rattle.emtp_fix.specs.Rounding.{near}
use Rattle.emtp_fix.specs.declared.limit.TheConstants.{PICO}
use Rattle.emtp_laws.specs.Phases.{AnswersBy, AnswersRenumbered, KeepsRenumbered, Renumbering, cycled, exchanged, renumbered}
use Rattle.emtp_line.specs.Phases.{Modes, from_histories, mean, mutual_conductance, of_phase, own_conductance, phase_currents, phase_from_history, phase_to_history, phase_waves, to_histories, zero_wave}
use Rattle.emtp_line.specs.Wave.{history_of}

-- ---- sums in another order

abbrev Swaps : ℤ → ℤ → ℤ → Type 0
Swaps a b c = (a +ℤ b) +ℤ c ≡ (a +ℤ c) +ℤ b

swaps : (a b c : ℤ) → Swaps a b c
swaps a b c = omega (arith, ints)

cycles : (a b c : ℤ) → (b +ℤ c) +ℤ a ≡ (a +ℤ b) +ℤ c
cycles a b c = omega (arith, ints)

mean_cycled : (xs : List ℤ) → mean (renumbered cycled xs) ≡ mean xs
mean_cycled xs = ap (λ s. near s (pos 3)) (cycles (of_phase xs 0) (of_phase xs 1) (of_phase xs 2))

mean_exchanged : (xs : List ℤ) → mean (renumbered exchanged xs) ≡ mean xs
mean_exchanged xs = ap (λ s. near s (pos 3)) (swaps (of_phase xs 0) (of_phase xs 2) (of_phase xs 1))

-- ---- one end

currents_cycled : (m : Modes) (histories v : List ℤ) → phase_currents m (renumbered cycled histories) (renumbered cycled v) ≡ renumbered cycled (phase_currents m histories v)
currents_cycled m histories v = refl

-- the current of a phase, by the voltages of the two others in either order
current_swapped : (m : Modes) (own other another history : ℤ)
    → near ((own_conductance m *ℤ own +ℤ mutual_conductance m *ℤ other) +ℤ mutual_conductance m *ℤ another) PICO +ℤ history ≡ near ((own_conductance m *ℤ own +ℤ mutual_conductance m *ℤ another) +ℤ mutual_conductance m *ℤ other) PICO +ℤ history
current_swapped m own other another history = ap (λ s. near s PICO +ℤ history) (swaps (own_conductance m *ℤ own) (mutual_conductance m *ℤ other) (mutual_conductance m *ℤ another))

abbrev listed : ℤ → ℤ → ℤ → List ℤ
listed a b c = a ∷ b ∷ c ∷ []

three : (a a' b b' c c' : ℤ) → a ≡ a' → b ≡ b' → c ≡ c' → listed a b c ≡ listed a' b' c'
three a a' b b' c c' one two third = rw (one, two, third) refl

currents_exchanged : (m : Modes) (histories v : List ℤ) → phase_currents m (renumbered exchanged histories) (renumbered exchanged v) ≡ renumbered exchanged (phase_currents m histories v)
currents_exchanged m histories v =
    three _ _ _ _ _ _
    (current_swapped m (of_phase v 0) (of_phase v 2) (of_phase v 1) (of_phase histories 0))
    (current_swapped m (of_phase v 2) (of_phase v 1) (of_phase v 0) (of_phase histories 2))
    (current_swapped m (of_phase v 1) (of_phase v 0) (of_phase v 2) (of_phase histories 1))

-- the waves of an end, whose means are the same
waves_cycled : (m : Modes) (v i : List ℤ) → phase_waves m (renumbered cycled v) (renumbered cycled i) ≡ renumbered cycled (phase_waves m v i)
waves_cycled m v i = rw (mean_cycled v, mean_cycled i) refl

waves_exchanged : (m : Modes) (v i : List ℤ) → phase_waves m (renumbered exchanged v) (renumbered exchanged i) ≡ renumbered exchanged (phase_waves m v i)
waves_exchanged m v i = rw (mean_exchanged v, mean_exchanged i) refl

same_zero : (m : Modes) (n : Renumbering) (v i : List ℤ) → mean (renumbered n v) ≡ mean v → mean (renumbered n i) ≡ mean i → zero_wave m (renumbered n v) (renumbered n i) ≡ zero_wave m v i
same_zero m n v i same_v same_i = rw (same_v, same_i) refl

-- an end whose currents come by the new numbers answers by them
answers : (m : Modes) (n : Renumbering) (before v : List ℤ) → ((xs : List ℤ) → mean (renumbered n xs) ≡ mean xs) → ((w i : List ℤ) → phase_waves m (renumbered n w) (renumbered n i) ≡ renumbered n (phase_waves m w i)) → phase_currents m (renumbered n before) (renumbered n v) ≡ renumbered n (phase_currents m before v)
    → AnswersRenumbered n m before (renumbered n before) v
answers m n before v means waves currents = record {
  currents = currents;
  waves = ap (phase_waves m (renumbered n v)) currents ∙ waves v (phase_currents m before v);
  zero_sequence = ap (zero_wave m (renumbered n v)) currents ∙ same_zero m n v (phase_currents m before v) (means v) (means (phase_currents m before v));
}

-- ---- the past

-- the history current of a phase, from the waves of both sequences
abbrev brought : Modes → List ℤ → List ℤ → List ℤ → List ℤ → ℤ
brought m zero_far zero_near far near_end = history_of m.zero_sequence zero_far zero_near +ℤ history_of m.positive far near_end

brought_same : (m : Modes) (a a' b b' c c' d d' : List ℤ) → a ≡ a' → b ≡ b' → c ≡ c' → d ≡ d' → brought m a b c d ≡ brought m a' b' c' d'
brought_same m a a' b b' c c' d d' one two third fourth = rw (one, two, third, fourth) refl

from_renumbered : (m : Modes) (n : Renumbering) (past new : ℕ → List PhaseState) → KeepsRenumbered n past new → (p : ℕ) → phase_from_history m (new 0) (new p) ≡ phase_from_history m (past 0) (past (n.before p))
from_renumbered m n past new keeps p = brought_same m _ _ _ _ _ _ _ _ keeps.zero_to keeps.zero_from (keeps.to_waves p) (keeps.from_waves p)

to_renumbered : (m : Modes) (n : Renumbering) (past new : ℕ → List PhaseState) → KeepsRenumbered n past new → (p : ℕ) → phase_to_history m (new 0) (new p) ≡ phase_to_history m (past 0) (past (n.before p))
to_renumbered m n past new keeps p = brought_same m _ _ _ _ _ _ _ _ keeps.zero_from keeps.zero_to (keeps.from_waves p) (keeps.to_waves p)

from_cycled : (m : Modes) (past new : ℕ → List PhaseState) → KeepsRenumbered cycled past new → from_histories m new ≡ renumbered cycled (from_histories m past)
from_cycled m past new keeps = three _ _ _ _ _ _ (from_renumbered m cycled past new keeps 0) (from_renumbered m cycled past new keeps 1) (from_renumbered m cycled past new keeps 2)

to_cycled : (m : Modes) (past new : ℕ → List PhaseState) → KeepsRenumbered cycled past new → to_histories m new ≡ renumbered cycled (to_histories m past)
to_cycled m past new keeps = three _ _ _ _ _ _ (to_renumbered m cycled past new keeps 0) (to_renumbered m cycled past new keeps 1) (to_renumbered m cycled past new keeps 2)

from_exchanged : (m : Modes) (past new : ℕ → List PhaseState) → KeepsRenumbered exchanged past new → from_histories m new ≡ renumbered exchanged (from_histories m past)
from_exchanged m past new keeps = three _ _ _ _ _ _ (from_renumbered m exchanged past new keeps 0) (from_renumbered m exchanged past new keeps 1) (from_renumbered m exchanged past new keeps 2)

to_exchanged : (m : Modes) (past new : ℕ → List PhaseState) → KeepsRenumbered exchanged past new → to_histories m new ≡ renumbered exchanged (to_histories m past)
to_exchanged m past new keeps = three _ _ _ _ _ _ (to_renumbered m exchanged past new keeps 0) (to_renumbered m exchanged past new keeps 1) (to_renumbered m exchanged past new keeps 2)

-- ---- both

cycled_answers : (m : Modes) (before new v : List ℤ) → new ≡ renumbered cycled before → AnswersRenumbered cycled m before new v
cycled_answers m before new v is = subst (λ h. AnswersRenumbered cycled m before h v) (sym is) (answers m cycled before v mean_cycled (waves_cycled m) (currents_cycled m before v))

exchanged_answers : (m : Modes) (before new v : List ℤ) → new ≡ renumbered exchanged before → AnswersRenumbered exchanged m before new v
exchanged_answers m before new v is = subst (λ h. AnswersRenumbered exchanged m before h v) (sym is) (answers m exchanged before v mean_exchanged (waves_exchanged m) (currents_exchanged m before v))

pub cycled_everywhere : (m : Modes) → AnswersBy cycled m
cycled_everywhere m past new keeps = record {
  at_from = λ v. cycled_answers m (from_histories m past) (from_histories m new) v (from_cycled m past new keeps);
  at_to = λ v. cycled_answers m (to_histories m past) (to_histories m new) v (to_cycled m past new keeps);
}

pub exchanged_everywhere : (m : Modes) → AnswersBy exchanged m
exchanged_everywhere m past new keeps = record {
  at_from = λ v. exchanged_answers m (from_histories m past) (from_histories m new) v (from_exchanged m past new keeps);
  at_to = λ v. exchanged_answers m (to_histories m past) (to_histories m new) v (to_exchanged m past new keeps);
}
