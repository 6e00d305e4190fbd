-- What is true of lines in the field's own words.
use Rattle.std.proofs.Common.{◌≡◌, ◌≢◌, ◌∙◌, ap, sym, ◌+◌, ◌*◌, ◌-◌, ◌%◌, ◌≤◌, ◌^◌, zero, suc, ℕ, ℤ, pos, neg_ℤ, ◌+ℤ◌, ◌-ℤ◌, ◌*ℤ◌, unsigned_abs, List, [], ◌∷◌, get_or, map, Some, refl, arith}
use Rattle.std.proofs.lemmas.Int.{ints}
use Rattle.emtp_case.specs.held.Range.{IsBetween}
use Rattle.emtp_case.specs.StepRecord.{no_line}
use Rattle.emtp_case.specs.declared.branch.LineState.{LineState}
use Rattle.emtp_fix.specs.Rounding.{near}
use Rattle.emtp_fix.specs.held.Rounding.{rest}
use Rattle.emtp_fix.specs.declared.limit.TheConstants.{LARGEST_IMPEDANCE, LEAST_IMPEDANCE, PICO}
use Rattle.emtp_fix.proofs.Nearest.{near-zero, near-rest}
use Rattle.emtp_fix.proofs.Quotients.{near-exact, near-apart, near-times_zero}
use Rattle.emtp_fix.proofs.Wide.{mul_add}
use Rattle.emtp_hist.specs.History.{value_before}
use Rattle.emtp_line.specs.Laws.{IsAtRest, IsLossless, MeetAtTravelTime, Cancel, alike, steps_before}
use Rattle.emtp_line.specs.Line.{line_histories, line_state, next_state, from_waves, to_waves}
use Rattle.emtp_line.specs.Mode.{mode_of, far_share_of}
use Rattle.emtp_line.specs.Wave.{end_of, history_of, past_wave, between, wave_of, current_of}
use Rattle.emtp_line.specs.Phases.{Modes, own_conductance, mutual_conductance, of_phase, phase_current, phase_currents, phase_wave, zero_wave, mean}
use Rattle.emtp_line.specs.declared.mode.Mode.{Mode}
use Rattle.emtp_line.proofs.Bounds.{between-whole}

-- ---- rest

no_past_wave : (m : Mode) (waves : List ℤ) → ((k : ℕ) → value_before waves k ≡ pos 0) → past_wave m waves ≡ pos 0
no_past_wave m waves none =
    ap (λ z. between m z (value_before waves m.steps)) (none (m.steps - 1)) ∙ ap (λ z. between m (pos 0) z) (none m.steps) ∙ ap (λ z. pos 0 +ℤ z) (near-times_zero m.rest m.dt)

pub no_history : (m : Mode) (other own : List ℤ) → ((k : ℕ) → value_before other k ≡ pos 0) → ((k : ℕ) → value_before own k ≡ pos 0) → history_of m other own ≡ pos 0
no_history m other own o w =
    ap (λ z. neg_ℤ (near (m.far_share *ℤ z) PICO) -ℤ near (m.near_share *ℤ past_wave m own) PICO) (no_past_wave m other o) ∙ ap (λ z. neg_ℤ (near (m.far_share *ℤ pos 0) PICO) -ℤ near (m.near_share *ℤ z) PICO) (no_past_wave m own w)
    ∙ ap (λ z. neg_ℤ z -ℤ near (m.near_share *ℤ pos 0) PICO) (near-times_zero m.far_share PICO) ∙ ap (λ z. pos 0 -ℤ z) (near-times_zero m.near_share PICO)

end_rests : (m : Mode) → end_of m (pos 0) (pos 0) ≡ Some (pos 0, pos 0)
unfolding end_of
end_rests m =
    let i : current_of m (pos 0) (pos 0) ≡ pos 0 = ap (λ z. z +ℤ pos 0) (near-times_zero m.conductance PICO) in
    let w : wave_of m (pos 0) (pos 0) ≡ pos 0 = ap (λ z. z +ℤ near (m.attenuation *ℤ pos 0) PICO) (near-times_zero m.conductance PICO) ∙ ap (λ z. pos 0 +ℤ z) (near-times_zero m.attenuation PICO) in
    rw (i, w) refl

-- without history currents and voltages nothing is kept
state_rests : (m : Mode) (histories : ℤ × ℤ) → histories ≡ (pos 0, pos 0) → line_state m histories (pos 0) (pos 0) ≡ Some no_line
unfolding line_state
state_rests m histories none = rw (none, end_rests m) refl

pub rests : (m : Mode) (past : List LineState) → IsAtRest past → next_state m past (pos 0) (pos 0) ≡ Some no_line
rests m past h =
    let f : (line_histories m past).0 ≡ pos 0 = no_history m (to_waves past) (from_waves past) h.to h.from in
    let t : (line_histories m past).1 ≡ pos 0 = no_history m (from_waves past) (to_waves past) h.from h.to in
    state_rests m (line_histories m past) (rw (f, t) refl)

still : (waves : List ℤ) → ((k : ℕ) → value_before waves k ≡ pos 0) → (k : ℕ) → value_before (pos 0 ∷ waves) k ≡ pos 0
still waves h zero = refl
still waves h (suc k) = h k

pub rests_on : (past : List LineState) → IsAtRest past → IsAtRest (no_line ∷ past)
rests_on past h = record { from = still (from_waves past) h.from; to = still (to_waves past) h.to }

-- ---- no loss

-- a multiple of the divisor is divided exactly
by_pico : (z : ℤ) → near (PICO *ℤ z) PICO ≡ z
by_pico z = let turned : PICO *ℤ z ≡ z *ℤ PICO = omega (arith, ints) in ap (λ y. near y PICO) turned ∙ near-exact z (10 ^ 12) (omega arith)

by_none : (z : ℤ) → near (pos 0 *ℤ z) PICO ≡ pos 0
by_none z = let none : pos 0 *ℤ z ≡ pos 0 = omega (arith, ints) in ap (λ y. near y PICO) none ∙ near-zero PICO

pub lossless : (dt zc delay : ℤ) → IsBetween LEAST_IMPEDANCE LARGEST_IMPEDANCE zc → IsLossless (mode_of dt zc (pos 0) delay)
lossless dt zc delay h =
    let n = unsigned_abs zc in
    let e : zc ≡ pos n = omega (arith, ints, h.least) in
    let turned : pos n *ℤ PICO ≡ PICO *ℤ pos n = omega (arith, ints) in
    let base : near (zc *ℤ PICO) zc ≡ PICO = ap (λ z. near (z *ℤ PICO) z) e ∙ ap (λ y. near y (pos n)) turned ∙ near-exact PICO n (omega (arith, ints, h.least)) in
    let none : near (pos 0) (pos 4) ≡ pos 0 = near-zero (pos 4) in
    let add : zc +ℤ pos 0 ≡ zc = omega (arith, ints) in
    let less : zc -ℤ pos 0 ≡ zc = omega (arith, ints) in
    let a : far_share_of zc (pos 0) ≡ PICO = ap (λ q. near (zc *ℤ PICO) (zc +ℤ q)) none ∙ ap (λ z. near (zc *ℤ PICO) z) add ∙ base in
    record {
      attenuation = ap (λ q. near ((zc -ℤ q) *ℤ PICO) (zc +ℤ q)) none ∙ ap (λ z. near (z *ℤ PICO) (zc +ℤ pos 0)) less ∙ ap (λ z. near (zc *ℤ PICO) z) add ∙ base;
      far_share = a;
      near_share = omega (arith, ints, a);
    }

pub waves_read : (f : LineState → ℤ) → f no_line ≡ pos 0 → (past : List LineState) (k : ℕ) → value_before (map f past) k ≡ f (get_or past k no_line)
waves_read f none [] k = sym none
waves_read f none (s ∷ past) zero = refl
waves_read f none (s ∷ past) (suc k) = waves_read f none past k

pub arrives : (m : Mode) (other own : List ℤ) (v i : ℤ) → IsLossless m → m.rest ≡ pos 0 → value_before other (m.steps - 1) ≡ wave_of m v i → history_of m other own ≡ neg_ℤ (near (m.conductance *ℤ v) PICO +ℤ i)
arrives m other own v i h whole left =
    let p = past_wave m other in
    let here : p ≡ value_before other (m.steps - 1) = between-whole m (value_before other (m.steps - 1)) (value_before other m.steps) whole in
    let a : near (m.far_share *ℤ p) PICO ≡ p = ap (λ z. near (z *ℤ p) PICO) h.far_share ∙ by_pico p in
    let b : near (m.near_share *ℤ past_wave m own) PICO ≡ pos 0 = ap (λ z. near (z *ℤ past_wave m own) PICO) h.near_share ∙ by_none (past_wave m own) in
    let i' : near (m.attenuation *ℤ i) PICO ≡ i = ap (λ z. near (z *ℤ i) PICO) h.attenuation ∙ by_pico i in
    let w : wave_of m v i ≡ near (m.conductance *ℤ v) PICO +ℤ i = ap (λ z. near (m.conductance *ℤ v) PICO +ℤ z) i' in
    ap (λ z. neg_ℤ z -ℤ near (m.near_share *ℤ past_wave m own) PICO) (a ∙ here ∙ left ∙ w) ∙ ap (λ z. neg_ℤ (near (m.conductance *ℤ v) PICO +ℤ i) -ℤ z) b ∙ less_none (neg_ℤ (near (m.conductance *ℤ v) PICO +ℤ i))
  where
    less_none : (z : ℤ) → z -ℤ pos 0 ≡ z
    less_none z = omega (arith, ints)

-- the history currents look one travel time back, and one step further
pub same_histories : (m : Mode) (past other : List LineState) → MeetAtTravelTime m past other → line_histories m past ≡ line_histories m other
same_histories m past other h =
    rw (from_newer, from_older, to_newer, to_older) refl
  where
    from : LineState → ℤ
    from s = s.from_wave

    to : LineState → ℤ
    to s = s.to_wave

    later : (steps_before (m.steps + 1) past ≡ steps_before (m.steps + 1) other) → get_or past m.steps no_line ≡ get_or other m.steps no_line
    later e = let one : m.steps ≡ m.steps + 1 - 1 = omega arith in ap (λ k. get_or past k no_line) one ∙ e ∙ ap (λ k. get_or other k no_line) (sym one)

    from_newer : value_before (from_waves past) (m.steps - 1) ≡ value_before (from_waves other) (m.steps - 1)
    from_newer = waves_read from refl past (m.steps - 1) ∙ ap from h.newer ∙ sym (waves_read from refl other (m.steps - 1))

    from_older : value_before (from_waves past) m.steps ≡ value_before (from_waves other) m.steps
    from_older = waves_read from refl past m.steps ∙ ap from (later h.older) ∙ sym (waves_read from refl other m.steps)

    to_newer : value_before (to_waves past) (m.steps - 1) ≡ value_before (to_waves other) (m.steps - 1)
    to_newer = waves_read to refl past (m.steps - 1) ∙ ap to h.newer ∙ sym (waves_read to refl other (m.steps - 1))

    to_older : value_before (to_waves past) m.steps ≡ value_before (to_waves other) m.steps
    to_older = waves_read to refl past m.steps ∙ ap to (later h.older) ∙ sym (waves_read to refl other m.steps)

-- ---- equal modes

pico_some : PICO ≢ pos 0
pico_some e = omega (arith, ints, e)

pub own_same : (m : Mode) → own_conductance (alike m) ≡ m.conductance
own_same m = let three : m.conductance +ℤ pos 2 *ℤ m.conductance ≡ m.conductance *ℤ pos 3 = omega (arith, ints) in ap (λ z. near z (pos 3)) three ∙ near-exact m.conductance 3 (omega arith)

pub mutual_none : (m : Mode) → mutual_conductance (alike m) ≡ pos 0
mutual_none m = let none : m.conductance -ℤ m.conductance ≡ pos 0 = omega (arith, ints) in ap (λ z. near z (pos 3)) none ∙ near-zero (pos 3)

pub current_same : (m : Mode) (histories v : List ℤ) (p : ℕ) → phase_current (alike m) histories v p ≡ current_of m (of_phase histories p) (of_phase v p)
current_same m histories v p =
    let q = of_phase v ((p + 1) % 3) in
    let r = of_phase v ((p + 2) % 3) in
    ap (λ z. near (z *ℤ of_phase v p +ℤ mutual_conductance (alike m) *ℤ q +ℤ mutual_conductance (alike m) *ℤ r) PICO +ℤ of_phase histories p) (own_same m)
    ∙ ap (λ z. near (m.conductance *ℤ of_phase v p +ℤ z *ℤ q +ℤ z *ℤ r) PICO +ℤ of_phase histories p) (mutual_none m)
    ∙ ap (λ z. near z PICO +ℤ of_phase histories p) (lone (m.conductance *ℤ of_phase v p) q r)
  where
    lone : (y x z : ℤ) → y +ℤ pos 0 *ℤ x +ℤ pos 0 *ℤ z ≡ y
    lone y x z = omega (arith, ints)

parts_add : (g x y : ℤ) → g *ℤ x +ℤ g *ℤ (y -ℤ x) ≡ g *ℤ y
parts_add g x y =
    let whole : x +ℤ (y -ℤ x) ≡ y = omega (arith, ints) in
    sym (mul_add g x (y -ℤ x)) ∙ ap (λ z. g *ℤ z) whole

pub waves_add_up : (m : Mode) (v i : List ℤ) (p : ℕ) → unsigned_abs ((zero_wave (alike m) v i +ℤ phase_wave (alike m) v i p) -ℤ wave_of m (of_phase v p) (of_phase i p)) ≤ 2
waves_add_up m v i p =
    let a = near-apart (m.conductance *ℤ mean v) (m.conductance *ℤ (of_phase v p -ℤ mean v)) PICO pico_some in
    let b = near-apart (m.attenuation *ℤ mean i) (m.attenuation *ℤ (of_phase i p -ℤ mean i)) PICO pico_some in
    let a' : near (m.conductance *ℤ mean v +ℤ m.conductance *ℤ (of_phase v p -ℤ mean v)) PICO ≡ near (m.conductance *ℤ of_phase v p) PICO = ap (λ z. near z PICO) (parts_add m.conductance (mean v) (of_phase v p)) in
    let b' : near (m.attenuation *ℤ mean i +ℤ m.attenuation *ℤ (of_phase i p -ℤ mean i)) PICO ≡ near (m.attenuation *ℤ of_phase i p) PICO = ap (λ z. near z PICO) (parts_add m.attenuation (mean i) (of_phase i p)) in
    add_up (near (m.conductance *ℤ mean v) PICO) (near (m.conductance *ℤ (of_phase v p -ℤ mean v)) PICO) (near (m.attenuation *ℤ mean i) PICO) (near (m.attenuation *ℤ (of_phase i p -ℤ mean i)) PICO)
    (near (m.conductance *ℤ of_phase v p) PICO) (near (m.attenuation *ℤ of_phase i p) PICO) (rw a' at a) (rw b' at b)
  where
    add_up : (gv gd hi hd gp hp : ℤ) → unsigned_abs ((gv +ℤ gd) -ℤ gp) ≤ 1 → unsigned_abs ((hi +ℤ hd) -ℤ hp) ≤ 1 → unsigned_abs (((gv +ℤ hi) +ℤ (gd +ℤ hd)) -ℤ (gp +ℤ hp)) ≤ 2
    add_up gv gd hi hd gp hp a b = omega (arith, ints, a, b)

-- ---- a balanced end

-- what conductances make of voltages that cancel cancels
driven_cancel : (g o a b c : ℤ) → a +ℤ b +ℤ c ≡ pos 0 → (g *ℤ a +ℤ o *ℤ b +ℤ o *ℤ c) +ℤ (g *ℤ b +ℤ o *ℤ c +ℤ o *ℤ a) +ℤ (g *ℤ c +ℤ o *ℤ a +ℤ o *ℤ b) ≡ pos 0
driven_cancel g o a b c e =
    let ga : g *ℤ (a +ℤ b +ℤ c) ≡ g *ℤ a +ℤ g *ℤ b +ℤ g *ℤ c = mul_add g (a +ℤ b) c ∙ ap (λ z. z +ℤ g *ℤ c) (mul_add g a b) in
    let oa : o *ℤ (a +ℤ b +ℤ c) ≡ o *ℤ a +ℤ o *ℤ b +ℤ o *ℤ c = mul_add o (a +ℤ b) c ∙ ap (λ z. z +ℤ o *ℤ c) (mul_add o a b) in
    let g0 : g *ℤ (a +ℤ b +ℤ c) ≡ pos 0 = ap (λ z. g *ℤ z) e ∙ times_none g in
    let o0 : o *ℤ (a +ℤ b +ℤ c) ≡ pos 0 = ap (λ z. o *ℤ z) e ∙ times_none o in
    gathered (g *ℤ a) (g *ℤ b) (g *ℤ c) (o *ℤ a) (o *ℤ b) (o *ℤ c) (sym ga ∙ g0) (sym oa ∙ o0)
  where
    times_none : (x : ℤ) → x *ℤ pos 0 ≡ pos 0
    times_none x = omega (arith, ints)

    gathered : (ga gb gc oa ob oc : ℤ) → ga +ℤ gb +ℤ gc ≡ pos 0 → oa +ℤ ob +ℤ oc ≡ pos 0 → (ga +ℤ ob +ℤ oc) +ℤ (gb +ℤ oc +ℤ oa) +ℤ (gc +ℤ oa +ℤ ob) ≡ pos 0
    gathered ga gb gc oa ob oc g o = omega (arith, ints, g, o)

-- three numbers that cancel are rounded to three that cancel but for one unit
rounded_cancel : (x y z : ℤ) → x +ℤ y +ℤ z ≡ pos 0 → unsigned_abs (near x PICO +ℤ near y PICO +ℤ near z PICO) ≤ 1
rounded_cancel x y z e = close (near x PICO) (near y PICO) (near z PICO) (near-rest x PICO pico_some) (near-rest y PICO pico_some) (near-rest z PICO pico_some)
  where
    close : (p q r : ℤ) → 2 * rest x PICO p ≤ unsigned_abs PICO → 2 * rest y PICO q ≤ unsigned_abs PICO → 2 * rest z PICO r ≤ unsigned_abs PICO → unsigned_abs (p +ℤ q +ℤ r) ≤ 1
    close p q r a b c = omega (arith, ints, e, a, b, c)

-- the mean of the currents of an end is none
balanced_mean : (p q r a b c : ℤ) → unsigned_abs (p +ℤ q +ℤ r) ≤ 1 → a +ℤ b +ℤ c ≡ pos 0 → near ((p +ℤ a) +ℤ (q +ℤ b) +ℤ (r +ℤ c)) (pos 3) ≡ pos 0
balanced_mean p q r a b c small e = thirds ((p +ℤ a) +ℤ (q +ℤ b) +ℤ (r +ℤ c)) (omega (arith, ints, small, e)) (near-rest ((p +ℤ a) +ℤ (q +ℤ b) +ℤ (r +ℤ c)) (pos 3) three_some)
  where
    three_some : pos 3 ≢ pos 0
    three_some e = omega (arith, ints, e)

    thirds : (z : ℤ) → unsigned_abs z ≤ 1 → 2 * rest z (pos 3) (near z (pos 3)) ≤ 3 → near z (pos 3) ≡ pos 0
    thirds z small near' = none z (near z (pos 3)) small near'
      where
        none : (z q : ℤ) → unsigned_abs z ≤ 1 → 2 * rest z (pos 3) q ≤ 3 → q ≡ pos 0
        none z q small r = omega (arith, ints, small, r)

pub no_zero_wave : (m : Modes) (histories v : List ℤ) → Cancel v → Cancel histories → zero_wave m v (phase_currents m histories v) ≡ pos 0
no_zero_wave m histories v calm none =
    let g = own_conductance m in
    let o = mutual_conductance m in
    let a = of_phase v 0 in
    let b = of_phase v 1 in
    let c = of_phase v 2 in
    let volts : mean v ≡ pos 0 = ap (λ z. near z (pos 3)) calm ∙ near-zero (pos 3) in
    let small = rounded_cancel (g *ℤ a +ℤ o *ℤ b +ℤ o *ℤ c) (g *ℤ b +ℤ o *ℤ c +ℤ o *ℤ a) (g *ℤ c +ℤ o *ℤ a +ℤ o *ℤ b) (driven_cancel g o a b c calm) in
    let amps : mean (phase_currents m histories v) ≡ pos 0 =
    balanced_mean (near (g *ℤ a +ℤ o *ℤ b +ℤ o *ℤ c) PICO) (near (g *ℤ b +ℤ o *ℤ c +ℤ o *ℤ a) PICO) (near (g *ℤ c +ℤ o *ℤ a +ℤ o *ℤ b) PICO)
    (of_phase histories 0) (of_phase histories 1) (of_phase histories 2) small none in
    rw (volts, amps) (silent m.zero_sequence)
  where
    silent : (m : Mode) → wave_of m (pos 0) (pos 0) ≡ pos 0
    silent m = ap (λ z. z +ℤ near (m.attenuation *ℤ pos 0) PICO) (near-times_zero m.conductance PICO) ∙ ap (λ z. pos 0 +ℤ z) (near-times_zero m.attenuation PICO)
