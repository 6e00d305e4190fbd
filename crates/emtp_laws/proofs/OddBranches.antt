-- The laws of the branches are odd.
use Rattle.std.proofs.Common.{◌≡◌, ◌∙◌, ◌+◌, ◌-◌, ◌%◌, ◌==◌, ℕ, ℤ, pos, neg_ℤ, ◌+ℤ◌, ◌-ℤ◌, ◌*ℤ◌, List, [], ◌∷◌, map, option_map, refl, ap, sym, arith}
use Rattle.std.proofs.Math.Path.{fun_ext}
use Rattle.std.proofs.lemmas.Int.{ints}
use Rattle.std.proofs.lemmas.Simd.{map-map}
use Rattle.emtp_case.specs.declared.branch.LineState.{LineState}
use Rattle.emtp_case.specs.declared.branch.LumpedState.{LumpedState}
use Rattle.emtp_case.specs.declared.branch.PhaseState.{PhaseState}
use Rattle.emtp_fix.proofs.Nearest.{near-neg}
use Rattle.emtp_fix.proofs.Quotients.{near-mul_neg}
use Rattle.emtp_fix.proofs.Wide.{mul_neg}
use Rattle.emtp_fix.specs.Rounding.{near}
use Rattle.emtp_fix.specs.declared.limit.TheConstants.{MICRO, PICO}
use Rattle.emtp_hist.specs.History.{value_before}
use Rattle.emtp_line.specs.Line.{from_waves, line_histories, line_state, next_state as next_line, to_waves}
use Rattle.emtp_line.specs.Phases.{Modes, from_histories, mean, mutual_conductance, of_phase, own_conductance, phase_current, phase_currents, phase_end, phase_from_history, phase_from_waves, phase_state, phase_to_history, phase_to_waves, phase_wave, phase_waves, to_histories, zero_from_waves, zero_to_waves, zero_wave, zero_wave_at}
use Rattle.emtp_line.specs.Wave.{current_of, end_of, history_of, past_wave, wave_of}
use Rattle.emtp_line.specs.declared.mode.Mode.{Mode}
use Rattle.emtp_lumped.specs.Step as lumped
use Rattle.emtp_lumped.specs.declared.companion.Companion.{Companion}
use Rattle.emtp_elim.specs.held.Matrix.{opposites}
use Rattle.emtp_laws.specs.Mirror.{mirrored_line, mirrored_lumped, mirrored_phase}
use Rattle.emtp_elim.proofs.Opposites.{item_turned}
use Rattle.emtp_fix.proofs.Ranges.{chain_turned, in_range_turned}
use Rattle.emtp_laws.proofs.MirroredNumbers.{if_zero}

-- a product with a number of the opposite sign
near_of : (a x y d : ℤ) → y ≡ neg_ℤ x → near (a *ℤ y) d ≡ neg_ℤ (near (a *ℤ x) d)
near_of a x y d e = ap (λ z. near (a *ℤ z) d) e ∙ near-mul_neg a x d

-- ---- series branches

history_current : (c : Companion) (s : LumpedState) → lumped.history_current_of c (mirrored_lumped s) ≡ neg_ℤ (lumped.history_current_of c s)
history_current c s = near-mul_neg c.conductance s.history_voltage PICO

pub lumped_history : (c : Companion) (s : LumpedState) → lumped.history_current_of c (mirrored_lumped s) ≡ neg_ℤ (lumped.history_current_of c s)
lumped_history = history_current

lumped_current : (c : Companion) (s : LumpedState) (v : ℤ) → lumped.current_of c (mirrored_lumped s) (neg_ℤ v) ≡ neg_ℤ (lumped.current_of c s v)
lumped_current c s v = omega (arith, ints, history_current c s, near-mul_neg c.conductance v PICO)

inductor : (c : Companion) (s : LumpedState) (i : ℤ) → lumped.inductor_voltage_of c (mirrored_lumped s) (neg_ℤ i) ≡ neg_ℤ (lumped.inductor_voltage_of c s i)
inductor c s i =
    let apart : neg_ℤ i -ℤ neg_ℤ s.current ≡ neg_ℤ (i -ℤ s.current) = omega (arith, ints) in
    omega (arith, ints, near_of c.inductor (i -ℤ s.current) (neg_ℤ i -ℤ neg_ℤ s.current) MICRO apart)

capacitor : (c : Companion) (s : LumpedState) (i : ℤ) → lumped.capacitor_voltage_of c (mirrored_lumped s) (neg_ℤ i) ≡ neg_ℤ (lumped.capacitor_voltage_of c s i)
capacitor c s i =
    let both : neg_ℤ i +ℤ neg_ℤ s.current ≡ neg_ℤ (i +ℤ s.current) = omega (arith, ints) in
    omega (arith, ints, near_of c.capacitor (i +ℤ s.current) (neg_ℤ i +ℤ neg_ℤ s.current) MICRO both)

history_voltage : (c : Companion) (i l k : ℤ) → lumped.history_voltage_of c (neg_ℤ i) (neg_ℤ l) (neg_ℤ k) ≡ neg_ℤ (lumped.history_voltage_of c i l k)
history_voltage c i l k = omega (arith, ints, near-mul_neg (c.inductor -ℤ c.capacitor) i MICRO)

pub lumped_turned : (c : Companion) (s : LumpedState) (v : ℤ) → lumped.next_state c (mirrored_lumped s) (neg_ℤ v) ≡ option_map mirrored_lumped (lumped.next_state c s v)
unfolding lumped.next_state
lumped_turned c s v =
    chain_turned neg_ℤ mirrored_lumped _ _ _ _ (in_range_turned _ _ (lumped_current c s v)) (λ i.
    chain_turned neg_ℤ mirrored_lumped _ _ _ _ (in_range_turned _ _ (inductor c s i)) (λ l.
    chain_turned neg_ℤ mirrored_lumped _ _ _ _ (in_range_turned _ _ (capacitor c s i)) (λ k.
    chain_turned neg_ℤ mirrored_lumped _ _ _ _ (in_range_turned _ _ (history_voltage c i l k)) (λ e. refl))))

-- ---- waves

past_turned : (m : Mode) (waves : List ℤ) → past_wave m (opposites waves) ≡ neg_ℤ (past_wave m waves)
past_turned m waves =
    let newer = value_before waves (m.steps - 1) in
    let older = value_before waves m.steps in
    let e = item_turned waves (m.steps - 1) in
    let h = item_turned waves m.steps in
    let apart : value_before (opposites waves) m.steps -ℤ value_before (opposites waves) (m.steps - 1) ≡ neg_ℤ (older -ℤ newer) = omega (arith, ints, e, h) in
    omega (arith, ints, e, near_of m.rest (older -ℤ newer) (value_before (opposites waves) m.steps -ℤ value_before (opposites waves) (m.steps - 1)) m.dt apart)

pub history_turned : (m : Mode) (other own : List ℤ) → history_of m (opposites other) (opposites own) ≡ neg_ℤ (history_of m other own)
history_turned m other own =
    omega (arith, ints, near_of m.far_share (past_wave m other) (past_wave m (opposites other)) PICO (past_turned m other), near_of m.near_share (past_wave m own) (past_wave m (opposites own)) PICO (past_turned m own))

wave_turned : (m : Mode) (v i x k : ℤ) → x ≡ neg_ℤ v → k ≡ neg_ℤ i → wave_of m x k ≡ neg_ℤ (wave_of m v i)
wave_turned m v i x k e h = omega (arith, ints, near_of m.conductance v x PICO e, near_of m.attenuation i k PICO h)

abbrev turned_pair : ℤ × ℤ → ℤ × ℤ
turned_pair p = (neg_ℤ p.0, neg_ℤ p.1)

line_current : (m : Mode) (history v j : ℤ) → j ≡ neg_ℤ history → current_of m j (neg_ℤ v) ≡ neg_ℤ (current_of m history v)
line_current m history v j e = omega (arith, ints, e, near-mul_neg m.conductance v PICO)

end_turned : (m : Mode) (history v j : ℤ) → j ≡ neg_ℤ history → end_of m j (neg_ℤ v) ≡ option_map turned_pair (end_of m history v)
unfolding end_of
end_turned m history v j e =
    chain_turned neg_ℤ turned_pair _ _ _ _ (in_range_turned _ _ (line_current m history v j e)) (λ i.
    chain_turned neg_ℤ turned_pair _ _ _ _ (in_range_turned _ _ (wave_turned m v i (neg_ℤ v) (neg_ℤ i) refl refl)) (λ w. refl))

-- ---- single lines

waves_turned : (past : List LineState) → from_waves (map mirrored_line past) ≡ opposites (from_waves past)
waves_turned past = map-map (λ (s : LineState). s.from_wave) mirrored_line past ∙ sym (map-map neg_ℤ (λ (s : LineState). s.from_wave) past)

to_waves_turned : (past : List LineState) → to_waves (map mirrored_line past) ≡ opposites (to_waves past)
to_waves_turned past = map-map (λ (s : LineState). s.to_wave) mirrored_line past ∙ sym (map-map neg_ℤ (λ (s : LineState). s.to_wave) past)

pub line_histories_turned : (m : Mode) (past : List LineState) → line_histories m (map mirrored_line past) ≡ turned_pair (line_histories m past)
line_histories_turned m past =
    ap (λ f. (history_of m (to_waves (map mirrored_line past)) f, history_of m f (to_waves (map mirrored_line past)))) (waves_turned past)
    ∙ ap (λ t. (history_of m t (opposites (from_waves past)), history_of m (opposites (from_waves past)) t)) (to_waves_turned past)
    ∙ ap (λ x. (x, history_of m (opposites (from_waves past)) (opposites (to_waves past)))) (history_turned m (to_waves past) (from_waves past))
    ∙ ap (λ x. (neg_ℤ (history_of m (to_waves past) (from_waves past)), x)) (history_turned m (from_waves past) (to_waves past))

line_state_turned : (m : Mode) (j : ℤ × ℤ) (v w : ℤ) → line_state m (turned_pair j) (neg_ℤ v) (neg_ℤ w) ≡ option_map mirrored_line (line_state m j v w)
unfolding line_state
line_state_turned m j v w =
    chain_turned turned_pair mirrored_line _ _ _ _ (end_turned m j.0 v (neg_ℤ j.0) refl) (λ a.
    chain_turned turned_pair mirrored_line _ _ _ _ (end_turned m j.1 w (neg_ℤ j.1) refl) (λ b. refl))

pub line_turned : (m : Mode) (past : List LineState) (v w : ℤ) → next_line m (map mirrored_line past) (neg_ℤ v) (neg_ℤ w) ≡ option_map mirrored_line (next_line m past v w)
line_turned m past v w = ap (λ j. line_state m j (neg_ℤ v) (neg_ℤ w)) (line_histories_turned m past) ∙ line_state_turned m (line_histories m past) v w

-- ---- three-phase lines

through_waves : (f : PhaseState → ℤ) → ((s : PhaseState) → f (mirrored_phase s) ≡ neg_ℤ (f s)) → (past : List PhaseState) → map f (map mirrored_phase past) ≡ opposites (map f past)
through_waves f h past = map-map f mirrored_phase past ∙ ap (λ k. map k past) (fun_ext h) ∙ sym (map-map neg_ℤ f past)

two_histories : (m : Modes) (a b c d : List ℤ) (x y z w : List ℤ) → x ≡ opposites a → y ≡ opposites b → z ≡ opposites c → w ≡ opposites d
    → history_of m.zero_sequence x y +ℤ history_of m.positive z w ≡ neg_ℤ (history_of m.zero_sequence a b +ℤ history_of m.positive c d)
two_histories m a b c d x y z w ea eb ec ed =
    let first : history_of m.zero_sequence x y ≡ neg_ℤ (history_of m.zero_sequence a b) = ap (λ k. history_of m.zero_sequence k y) ea ∙ ap (history_of m.zero_sequence (opposites a)) eb ∙ history_turned m.zero_sequence a b in
    let second : history_of m.positive z w ≡ neg_ℤ (history_of m.positive c d) = ap (λ k. history_of m.positive k w) ec ∙ ap (history_of m.positive (opposites c)) ed ∙ history_turned m.positive c d in
    omega (arith, ints, first, second)

pub from_history : (m : Modes) (first past : List PhaseState) → phase_from_history m (map mirrored_phase first) (map mirrored_phase past) ≡ neg_ℤ (phase_from_history m first past)
from_history m first past =
    two_histories m (zero_to_waves first) (zero_from_waves first) (phase_to_waves past) (phase_from_waves past) _ _ _ _
    (through_waves (λ (s : PhaseState). s.to_zero_wave) (λ s. refl) first)
    (through_waves (λ (s : PhaseState). s.from_zero_wave) (λ s. refl) first)
    (through_waves (λ (s : PhaseState). s.to_wave) (λ s. refl) past)
    (through_waves (λ (s : PhaseState). s.from_wave) (λ s. refl) past)

pub to_history : (m : Modes) (first past : List PhaseState) → phase_to_history m (map mirrored_phase first) (map mirrored_phase past) ≡ neg_ℤ (phase_to_history m first past)
to_history m first past =
    two_histories m (zero_from_waves first) (zero_to_waves first) (phase_from_waves past) (phase_to_waves past) _ _ _ _
    (through_waves (λ (s : PhaseState). s.from_zero_wave) (λ s. refl) first)
    (through_waves (λ (s : PhaseState). s.to_zero_wave) (λ s. refl) first)
    (through_waves (λ (s : PhaseState). s.from_wave) (λ s. refl) past)
    (through_waves (λ (s : PhaseState). s.to_wave) (λ s. refl) past)

three : (a b c x y z : ℤ) → x ≡ a → y ≡ b → z ≡ c → x ∷ y ∷ z ∷ [] ≡ a ∷ b ∷ c ∷ []
three a b c x y z e h k = ap (λ n. n ∷ y ∷ z ∷ []) e ∙ ap (λ n. a ∷ n ∷ z ∷ []) h ∙ ap (λ n. a ∷ b ∷ n ∷ []) k

pub from_histories_turned : (m : Modes) (past : ℕ → List PhaseState) → from_histories m (λ p. map mirrored_phase (past p)) ≡ opposites (from_histories m past)
from_histories_turned m past = three _ _ _ _ _ _ (from_history m (past 0) (past 0)) (from_history m (past 0) (past 1)) (from_history m (past 0) (past 2))

pub to_histories_turned : (m : Modes) (past : ℕ → List PhaseState) → to_histories m (λ p. map mirrored_phase (past p)) ≡ opposites (to_histories m past)
to_histories_turned m past = three _ _ _ _ _ _ (to_history m (past 0) (past 0)) (to_history m (past 0) (past 1)) (to_history m (past 0) (past 2))

mean_turned : (xs : List ℤ) → mean (opposites xs) ≡ neg_ℤ (mean xs)
mean_turned xs =
    let sum : of_phase (opposites xs) 0 +ℤ of_phase (opposites xs) 1 +ℤ of_phase (opposites xs) 2 ≡ neg_ℤ (of_phase xs 0 +ℤ of_phase xs 1 +ℤ of_phase xs 2) =
    omega (arith, ints, item_turned xs 0, item_turned xs 1, item_turned xs 2) in
    ap (λ z. near z (pos 3)) sum ∙ near-neg (of_phase xs 0 +ℤ of_phase xs 1 +ℤ of_phase xs 2) (pos 3)

product_of : (g : ℤ) (v : List ℤ) (p : ℕ) → g *ℤ of_phase (opposites v) p ≡ neg_ℤ (g *ℤ of_phase v p)
product_of g v p = ap (λ z. g *ℤ z) (item_turned v p) ∙ mul_neg g (of_phase v p)

phase_current_turned : (m : Modes) (histories v : List ℤ) (p : ℕ) → phase_current m (opposites histories) (opposites v) p ≡ neg_ℤ (phase_current m histories v p)
phase_current_turned m histories v p =
    let own = own_conductance m in
    let coupled = mutual_conductance m in
    let q = (p + 1) % 3 in
    let r = (p + 2) % 3 in
    let sum : own *ℤ of_phase (opposites v) p +ℤ coupled *ℤ of_phase (opposites v) q +ℤ coupled *ℤ of_phase (opposites v) r ≡ neg_ℤ (own *ℤ of_phase v p +ℤ coupled *ℤ of_phase v q +ℤ coupled *ℤ of_phase v r) =
    omega (arith, ints, product_of own v p, product_of coupled v q, product_of coupled v r) in
    let whole : near (own *ℤ of_phase (opposites v) p +ℤ coupled *ℤ of_phase (opposites v) q +ℤ coupled *ℤ of_phase (opposites v) r) PICO ≡ neg_ℤ (near (own *ℤ of_phase v p +ℤ coupled *ℤ of_phase v q +ℤ coupled *ℤ of_phase v r) PICO) =
    ap (λ z. near z PICO) sum ∙ near-neg (own *ℤ of_phase v p +ℤ coupled *ℤ of_phase v q +ℤ coupled *ℤ of_phase v r) PICO in
    omega (arith, ints, whole, item_turned histories p)

phase_wave_turned : (m : Modes) (v i : List ℤ) (p : ℕ) → phase_wave m (opposites v) (opposites i) p ≡ neg_ℤ (phase_wave m v i p)
phase_wave_turned m v i p =
    wave_turned m.positive (of_phase v p -ℤ mean v) (of_phase i p -ℤ mean i) _ _
    (omega (arith, ints, item_turned v p, mean_turned v)) (omega (arith, ints, item_turned i p, mean_turned i))

currents_turned : (m : Modes) (histories v : List ℤ) → phase_currents m (opposites histories) (opposites v) ≡ opposites (phase_currents m histories v)
currents_turned m histories v = three _ _ _ _ _ _ (phase_current_turned m histories v 0) (phase_current_turned m histories v 1) (phase_current_turned m histories v 2)

phase_waves_turned : (m : Modes) (v i : List ℤ) → phase_waves m (opposites v) (opposites i) ≡ opposites (phase_waves m v i)
phase_waves_turned m v i = three _ _ _ _ _ _ (phase_wave_turned m v i 0) (phase_wave_turned m v i 1) (phase_wave_turned m v i 2)

-- the numbers of an end, of which each has the opposite sign in the mirror
current_of_phase : (m : Modes) (j v : List ℤ) (p : ℕ) → of_phase (phase_currents m (opposites j) (opposites v)) p ≡ neg_ℤ (of_phase (phase_currents m j v) p)
current_of_phase m j v p = ap (λ xs. of_phase xs p) (currents_turned m j v) ∙ item_turned (phase_currents m j v) p

wave_of_phase : (m : Modes) (j v : List ℤ) (p : ℕ)
    → of_phase (phase_waves m (opposites v) (phase_currents m (opposites j) (opposites v))) p ≡ neg_ℤ (of_phase (phase_waves m v (phase_currents m j v)) p)
wave_of_phase m j v p =
    ap (λ xs. of_phase (phase_waves m (opposites v) xs) p) (currents_turned m j v)
    ∙ ap (λ xs. of_phase xs p) (phase_waves_turned m v (phase_currents m j v))
    ∙ item_turned (phase_waves m v (phase_currents m j v)) p

zero_wave_of : (m : Modes) (j v : List ℤ) (p : ℕ)
    → zero_wave_at p (zero_wave m (opposites v) (phase_currents m (opposites j) (opposites v))) ≡ neg_ℤ (zero_wave_at p (zero_wave m v (phase_currents m j v)))
zero_wave_of m j v p =
    let i = phase_currents m j v in
    ap (λ xs. zero_wave_at p (zero_wave m (opposites v) xs)) (currents_turned m j v)
    ∙ ap (zero_wave_at p) (wave_turned m.zero_sequence (mean v) (mean i) (mean (opposites v)) (mean (opposites i)) (mean_turned v) (mean_turned i))
    ∙ if_zero (p == 0) (zero_wave m v i)

pub phase_turned : (m : Modes) (j v h w : List ℤ) (p : ℕ)
    → phase_state (phase_end m (opposites j) (opposites v)) (phase_end m (opposites h) (opposites w)) p ≡ option_map mirrored_phase (phase_state (phase_end m j v) (phase_end m h w) p)
unfolding phase_state
phase_turned m j v h w p =
    chain_turned neg_ℤ mirrored_phase _ _ _ _ (in_range_turned _ _ (current_of_phase m j v p)) (λ i.
    chain_turned neg_ℤ mirrored_phase _ _ _ _ (in_range_turned _ _ (current_of_phase m h w p)) (λ k.
    chain_turned neg_ℤ mirrored_phase _ _ _ _ (in_range_turned _ _ (wave_of_phase m j v p)) (λ a.
    chain_turned neg_ℤ mirrored_phase _ _ _ _ (in_range_turned _ _ (wave_of_phase m h w p)) (λ b.
    chain_turned neg_ℤ mirrored_phase _ _ _ _ (in_range_turned _ _ (zero_wave_of m j v p)) (λ x.
    chain_turned neg_ℤ mirrored_phase _ _ _ _ (in_range_turned _ _ (zero_wave_of m h w p)) (λ y. refl))))))
