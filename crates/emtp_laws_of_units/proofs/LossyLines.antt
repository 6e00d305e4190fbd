-- A line with losses: the waves that its ends send and receive, by its card, and over a run.
use Rattle.std.proofs.Common.{◌≡◌, ◌≢◌, ◌∙◌, ◌+◌, ◌-◌, ◌*◌, ◌^◌, ◌≤◌, ap, sym, subst, refl, ℕ, suc, ℤ, pos, neg_ℤ, ◌+ℤ◌, ◌-ℤ◌, ◌*ℤ◌, ◌≤ℤ◌, unsigned_abs, List, [], ◌∷◌, slice_get, Some, arith}
use Rattle.std.proofs.lemmas.Int.{ints, unsigned_abs-mul}
use Rattle.std.proofs.lemmas.Nat.{mul-le}
use Rattle.std.proofs.lemmas.Option.{slice_get_within}
use Rattle.emtp_case.specs.held.Case.{IsCase}
use Rattle.emtp_case.specs.StepRecord.{StepRecord, before_start, latest, line_at, record_back, rest_of, voltage_at}
use Rattle.emtp_case.specs.declared.branch.Branch.TheVariants.{Line as OfLine}
use Rattle.emtp_case.specs.declared.branch.Line.{Line}
use Rattle.emtp_case.specs.declared.branch.LineState.{LineState}
use Rattle.emtp_case.specs.declared.case.Parts.{Parts}
use Rattle.emtp_fix.proofs.Nearest.{near-rest}
use Rattle.emtp_fix.proofs.Quotients.{near-times_zero, near-zero_times}
use Rattle.emtp_fix.proofs.Wide.{mul_add}
use Rattle.emtp_fix.specs.Rounding.{near}
use Rattle.emtp_fix.specs.declared.limit.TheConstants.{ATTO, LEAST_IMPEDANCE, PICO}
use Rattle.emtp_hist.specs.History.{value_before}
use Rattle.emtp_line.proofs.Physics.{waves_read}
use Rattle.emtp_line.specs.Line.{from_waves, to_waves}
use Rattle.emtp_line.specs.Lines as lined
use Rattle.emtp_line.specs.Mode.{mode_of_line}
use Rattle.emtp_line.specs.Wave.{current_of, history_of, past_wave, wave_of}
use Rattle.emtp_line.specs.declared.mode.Mode.{Mode}
use Rattle.emtp_machine.proofs.Chains.{chain}
use Rattle.emtp_machine.specs.Laws.{records_upto}
use Rattle.emtp_machine.specs.held.Laws.{IsChain}
use Rattle.emtp_net.proofs.Nodes.{branch_fits}
use Rattle.emtp_laws.proofs.Products.{mul_assoc, mul_sub, sub_mul, swapped}
use Rattle.emtp_laws_of_units.specs.Losses.{MixesWaves, ReceivesWaves, SendsWave, TravelsFor, by_voltage, end_impedance, quarter}
use Rattle.emtp_laws_of_units.proofs.LineRuns.{IsStill, line_next, rest_still, some_travel, states_back}
use Rattle.emtp_laws_of_units.proofs.LosslessLines.{whole_mode}

-- ---- shares, in whole numbers

-- a share h of a current i, which is c/z rounded
shared : (z c h i k : ℤ) → 2 * unsigned_abs (c *ℤ PICO -ℤ h *ℤ z) ≤ unsigned_abs z → 2 * unsigned_abs (h *ℤ i -ℤ k *ℤ PICO) ≤ 10 ^ 12
    → 2 * 10 ^ 12 * unsigned_abs (z *ℤ k -ℤ c *ℤ i) ≤ unsigned_abs z * (10 ^ 12 + unsigned_abs i)
shared z c h i k in_h in_k =
    let e = c *ℤ PICO -ℤ h *ℤ z in
    let f = h *ℤ i -ℤ k *ℤ PICO in
    let left : 2 * unsigned_abs (e *ℤ i) ≤ unsigned_abs z * unsigned_abs i = omega (arith, unsigned_abs-mul e i, mul-le (2 * unsigned_abs e) (unsigned_abs i) (unsigned_abs z) (unsigned_abs i) in_h (omega arith)) in
    let right : unsigned_abs z * (2 * unsigned_abs f) ≤ unsigned_abs z * 10 ^ 12 = mul-le (unsigned_abs z) (2 * unsigned_abs f) (unsigned_abs z) (10 ^ 12) (omega arith) in_k in
    joined (e *ℤ i) (z *ℤ f) (c *ℤ i) (z *ℤ k) (h *ℤ (z *ℤ i)) (unsigned_abs z) (unsigned_abs i) (unsigned_abs z * unsigned_abs i) refl
    (sub_mul (c *ℤ PICO) (h *ℤ z) i ∙ ap (λ y. y -ℤ h *ℤ z *ℤ i) (mul_assoc c PICO i ∙ swapped c PICO i) ∙ ap (λ y. PICO *ℤ (c *ℤ i) -ℤ y) (mul_assoc h z i))
    (mul_sub z (h *ℤ i) (k *ℤ PICO) ∙ ap (λ y. y -ℤ z *ℤ (k *ℤ PICO)) (swapped z h i) ∙ ap (λ y. h *ℤ (z *ℤ i) -ℤ y) (sym (mul_assoc z k PICO)))
    left (omega (arith, unsigned_abs-mul z f, right))
  where
    joined : (ei zf ci zk a : ℤ) (z i zi : ℕ) → zi ≡ z * i → ei ≡ PICO *ℤ ci -ℤ a → zf ≡ a -ℤ zk *ℤ PICO → 2 * unsigned_abs ei ≤ zi → 2 * unsigned_abs zf ≤ z * 10 ^ 12
        → 2 * 10 ^ 12 * unsigned_abs (zk -ℤ ci) ≤ z * (10 ^ 12 + i)
    joined ei zf ci zk a z i zi is e f m n =
        let most : 2 * 10 ^ 12 * unsigned_abs (zk -ℤ ci) ≤ zi + 10 ^ 12 * z = omega (arith, ints, e, f, m, n) in
        omega (arith, most, is)

-- the sum of a share a of the wave f, which is c/z rounded, and of what is left to 1 of the wave o
mixed : (z c a f o k l : ℤ) → 2 * unsigned_abs (c *ℤ PICO -ℤ a *ℤ z) ≤ unsigned_abs z → 2 * unsigned_abs (a *ℤ f -ℤ k *ℤ PICO) ≤ 10 ^ 12 → 2 * unsigned_abs ((PICO -ℤ a) *ℤ o -ℤ l *ℤ PICO) ≤ 10 ^ 12
    → 2 * 10 ^ 12 * unsigned_abs (z *ℤ (k +ℤ l) -ℤ (c *ℤ f +ℤ (z -ℤ c) *ℤ o)) ≤ unsigned_abs z * (2 * 10 ^ 12 + unsigned_abs (f -ℤ o))
mixed z c a f o k l in_a in_k in_l =
    let d = f -ℤ o in
    let e = c *ℤ PICO -ℤ a *ℤ z in
    let u = a *ℤ d +ℤ PICO *ℤ o in
    let g = u -ℤ (k +ℤ l) *ℤ PICO in
    let small : unsigned_abs g ≤ 10 ^ 12 = both (a *ℤ d) (a *ℤ f) (a *ℤ o) ((PICO -ℤ a) *ℤ o) o k l (mul_sub a f o) (sub_mul PICO a o) in_k in_l in
    let left : 2 * unsigned_abs (e *ℤ d) ≤ unsigned_abs z * unsigned_abs d = omega (arith, unsigned_abs-mul e d, mul-le (2 * unsigned_abs e) (unsigned_abs d) (unsigned_abs z) (unsigned_abs d) in_a (omega arith)) in
    let right : unsigned_abs (z *ℤ g) ≤ unsigned_abs z * 10 ^ 12 = omega (arith, unsigned_abs-mul z g, mul-le (unsigned_abs z) (unsigned_abs g) (unsigned_abs z) (10 ^ 12) (omega arith) small) in
    joined (e *ℤ d) (z *ℤ g) (a *ℤ (z *ℤ d)) (z *ℤ (k +ℤ l)) (c *ℤ f) (c *ℤ o) (c *ℤ d) (z *ℤ o) ((z -ℤ c) *ℤ o) (unsigned_abs z) (unsigned_abs d) (unsigned_abs z * unsigned_abs d) refl
    (sub_mul (c *ℤ PICO) (a *ℤ z) d ∙ ap (λ y. y -ℤ a *ℤ z *ℤ d) (mul_assoc c PICO d ∙ swapped c PICO d) ∙ ap (λ y. PICO *ℤ (c *ℤ d) -ℤ y) (mul_assoc a z d))
    (mul_sub z u ((k +ℤ l) *ℤ PICO) ∙ ap (λ y. y -ℤ z *ℤ ((k +ℤ l) *ℤ PICO)) (mul_add z (a *ℤ d) (PICO *ℤ o) ∙ ap (λ y. y +ℤ z *ℤ (PICO *ℤ o)) (swapped z a d) ∙ ap (λ y. a *ℤ (z *ℤ d) +ℤ y) (swapped z PICO o))
    ∙ ap (λ y. a *ℤ (z *ℤ d) +ℤ PICO *ℤ (z *ℤ o) -ℤ y) (sym (mul_assoc z (k +ℤ l) PICO)))
    (mul_sub c f o) (sub_mul z c o) left right
  where
    both : (ad af ao bo o k l : ℤ) → ad ≡ af -ℤ ao → bo ≡ PICO *ℤ o -ℤ ao → 2 * unsigned_abs (af -ℤ k *ℤ PICO) ≤ 10 ^ 12 → 2 * unsigned_abs (bo -ℤ l *ℤ PICO) ≤ 10 ^ 12 → unsigned_abs (ad +ℤ PICO *ℤ o -ℤ (k +ℤ l) *ℤ PICO) ≤ 10 ^ 12
    both ad af ao bo o k l e f m n = omega (arith, ints, e, f, m, n)

    joined : (ed zg a zs cf co cd zo qo : ℤ) (z d zd : ℕ) → zd ≡ z * d → ed ≡ PICO *ℤ cd -ℤ a → zg ≡ a +ℤ PICO *ℤ zo -ℤ zs *ℤ PICO → cd ≡ cf -ℤ co → qo ≡ zo -ℤ co → 2 * unsigned_abs ed ≤ zd → unsigned_abs zg ≤ z * 10 ^ 12
        → 2 * 10 ^ 12 * unsigned_abs (zs -ℤ (cf +ℤ qo)) ≤ z * (2 * 10 ^ 12 + d)
    joined ed zg a zs cf co cd zo qo z d zd is e f g h m n =
        let most : 2 * 10 ^ 12 * unsigned_abs (zs -ℤ (cf +ℤ qo)) ≤ zd + 2 * 10 ^ 12 * z = omega (arith, ints, e, f, g, h, m, n) in
        omega (arith, most, is)

-- ---- an end of the line

sends : (dt : ℤ) (x : Line) (v i w : ℤ) → end_impedance x ≢ pos 0 → w ≡ wave_of (mode_of_line dt x) v i → SendsWave x v i w
sends dt x v i w some is =
    let m = mode_of_line dt x in
    let k = near (m.attenuation *ℤ i) PICO in
    let beside : k ≡ w -ℤ by_voltage x v = left (by_voltage x v) k w is in
    subst (λ z. 2 * 10 ^ 12 * unsigned_abs (end_impedance x *ℤ z -ℤ (x.zc -ℤ quarter x) *ℤ i) ≤ unsigned_abs (end_impedance x) * (10 ^ 12 + unsigned_abs i)) beside
    (shared (end_impedance x) (x.zc -ℤ quarter x) m.attenuation i k (near-rest ((x.zc -ℤ quarter x) *ℤ PICO) (end_impedance x) some) (near-rest (m.attenuation *ℤ i) PICO (λ none. cc)))
  where
    left : (g k w : ℤ) → w ≡ g +ℤ k → k ≡ w -ℤ g
    left g k w e = omega (arith, ints, e)

receives : (dt : ℤ) (x : Line) (v i far own : ℤ) → end_impedance x ≢ pos 0
    → i ≡ by_voltage x v +ℤ (neg_ℤ (near ((mode_of_line dt x).far_share *ℤ far) PICO) -ℤ near ((mode_of_line dt x).near_share *ℤ own) PICO) → ReceivesWaves x v i far own
receives dt x v i far own some is =
    let m = mode_of_line dt x in
    let k = near (m.far_share *ℤ far) PICO in
    let l = near (m.near_share *ℤ own) PICO in
    let comes : k +ℤ l ≡ by_voltage x v -ℤ i = left (by_voltage x v) k l i is in
    let rest : end_impedance x -ℤ x.zc ≡ quarter x = without x.zc (quarter x) in
    subst (λ q. 2 * 10 ^ 12 * unsigned_abs (end_impedance x *ℤ (by_voltage x v -ℤ i) -ℤ (x.zc *ℤ far +ℤ q *ℤ own)) ≤ unsigned_abs (end_impedance x) * (2 * 10 ^ 12 + unsigned_abs (far -ℤ own))) rest
    (subst (λ z. 2 * 10 ^ 12 * unsigned_abs (end_impedance x *ℤ z -ℤ (x.zc *ℤ far +ℤ (end_impedance x -ℤ x.zc) *ℤ own)) ≤ unsigned_abs (end_impedance x) * (2 * 10 ^ 12 + unsigned_abs (far -ℤ own))) comes
    (mixed (end_impedance x) x.zc m.far_share far own k l (near-rest (x.zc *ℤ PICO) (end_impedance x) some) (near-rest (m.far_share *ℤ far) PICO (λ none. cc)) (near-rest (m.near_share *ℤ own) PICO (λ none. cc))))
  where
    left : (g k l i : ℤ) → i ≡ g +ℤ (neg_ℤ k -ℤ l) → k +ℤ l ≡ g -ℤ i
    left g k l i e = omega (arith, ints, e)

    without : (a b : ℤ) → a +ℤ b -ℤ a ≡ b
    without a b = omega (arith, ints)

-- ---- the waves of whole steps

-- a travel time without a rest
record IsWholeFor (m : Mode) (k : ℕ) : Type 0 where
  steps : m.steps ≡ k
  rest : m.rest ≡ pos 0

past_is : (m : Mode) (k : ℕ) (waves : List ℤ) → IsWholeFor m (suc k) → past_wave m waves ≡ value_before waves k
past_is m k waves whole =
    let newer = value_before waves (m.steps - 1) in
    let rise = value_before waves m.steps -ℤ newer in
    let one : m.steps - 1 ≡ k = omega (arith, whole.steps) in
    ap (λ z. newer +ℤ near (z *ℤ rise) m.dt) whole.rest ∙ ap (λ z. newer +ℤ z) (near-zero_times rise m.dt) ∙ as_it_is newer ∙ ap (value_before waves) one
  where
    as_it_is : (z : ℤ) → z +ℤ pos 0 ≡ z
    as_it_is z = omega (arith, ints)

-- the current of an end, from the waves that left both ends so many records before
current_is : (m : Mode) (k : ℕ) (other own : List ℤ) (v i far near_wave : ℤ) → IsWholeFor m (suc k) → i ≡ current_of m (history_of m other own) v → value_before other k ≡ far → value_before own k ≡ near_wave
    → i ≡ near (m.conductance *ℤ v) PICO +ℤ (neg_ℤ (near (m.far_share *ℤ far) PICO) -ℤ near (m.near_share *ℤ near_wave) PICO)
current_is m k other own v i far near_wave whole is one two =
    is
    ∙ ap (λ p. near (m.conductance *ℤ v) PICO +ℤ (neg_ℤ (near (m.far_share *ℤ p) PICO) -ℤ near (m.near_share *ℤ past_wave m own) PICO)) (past_is m k other whole ∙ one)
    ∙ ap (λ p. near (m.conductance *ℤ v) PICO +ℤ (neg_ℤ (near (m.far_share *ℤ far) PICO) -ℤ near (m.near_share *ℤ p) PICO)) (past_is m k own whole ∙ two)

-- ---- over a run

still_sends : (x : Line) → SendsWave x (pos 0) (pos 0) (pos 0)
still_sends x = rw (near-times_zero (near ATTO (end_impedance x)) PICO) (nothing (end_impedance x) (x.zc -ℤ quarter x))
  where
    nothing : (z c : ℤ) → 2 * 10 ^ 12 * unsigned_abs (z *ℤ (pos 0 -ℤ pos 0) -ℤ c *ℤ pos 0) ≤ unsigned_abs z * (10 ^ 12 + unsigned_abs (pos 0))
    nothing z c = omega (arith, ints)

still_receives : (x : Line) → ReceivesWaves x (pos 0) (pos 0) (pos 0) (pos 0)
still_receives x = rw (near-times_zero (near ATTO (end_impedance x)) PICO) (nothing (end_impedance x) x.zc (quarter x))
  where
    nothing : (z c q : ℤ) → 2 * 10 ^ 12 * unsigned_abs (z *ℤ (pos 0 -ℤ pos 0) -ℤ (c *ℤ pos 0 +ℤ q *ℤ pos 0)) ≤ unsigned_abs z * (2 * 10 ^ 12 + unsigned_abs (pos 0 -ℤ pos 0))
    nothing z c q = omega (arith, ints)

still_mixes : (b : ℕ) (x : Line) (r : StepRecord) → IsStill b x r → MixesWaves b x before_start r
still_mixes b x r still = record {
  sent_from = rw (still.line, still.at_from) (still_sends x);
  sent_to = rw (still.line, still.at_to) (still_sends x);
  received_from = rw (still.line, still.at_from) (still_receives x);
  received_to = rw (still.line, still.at_to) (still_receives x);
}

chain_mixes : (case : Parts) (H : List StepRecord) (b k : ℕ) (x : Line) → IsWholeFor (mode_of_line case.run.dt x) (suc k) → end_impedance x ≢ pos 0 → slice_get case.branches b ≡ Some (OfLine x) → IsChain case H → MixesWaves b x (record_back H (suc k)) (latest H)
chain_mixes case [] b k x whole some there is = absurd is
chain_mixes case (r ∷ []) b k x whole some there is = subst (MixesWaves b x before_start) (sym is) (still_mixes b x (rest_of case) (rest_still case b x))
chain_mixes case (r ∷ s ∷ past) b k x whole some there is =
    let H = s ∷ past in
    let dt = case.run.dt in
    let m = mode_of_line dt x in
    let froms = from_waves (lined.states_of b H) in
    let tos = to_waves (lined.states_of b H) in
    let step = line_next case H r b x is.0 there in
    let from_left : value_before froms k ≡ (line_at b (record_back H k)).from_wave = waves_read (λ (y : LineState). y.from_wave) refl (lined.states_of b H) k ∙ ap (λ (y : LineState). y.from_wave) (states_back b H k) in
    let to_left : value_before tos k ≡ (line_at b (record_back H k)).to_wave = waves_read (λ (y : LineState). y.to_wave) refl (lined.states_of b H) k ∙ ap (λ (y : LineState). y.to_wave) (states_back b H k) in
    record {
      sent_from = sends dt x (voltage_at x.from r) (line_at b r).from_current (line_at b r).from_wave some step.from.wave;
      sent_to = sends dt x (voltage_at x.to r) (line_at b r).to_current (line_at b r).to_wave some step.to.wave;
      received_from = receives dt x (voltage_at x.from r) (line_at b r).from_current (line_at b (record_back H k)).to_wave (line_at b (record_back H k)).from_wave some
          (current_is m k tos froms (voltage_at x.from r) (line_at b r).from_current (line_at b (record_back H k)).to_wave (line_at b (record_back H k)).from_wave whole step.from.current to_left from_left);
      received_to = receives dt x (voltage_at x.to r) (line_at b r).to_current (line_at b (record_back H k)).from_wave (line_at b (record_back H k)).to_wave some
          (current_is m k froms tos (voltage_at x.to r) (line_at b r).to_current (line_at b (record_back H k)).from_wave (line_at b (record_back H k)).to_wave whole step.to.current from_left to_left);
    }

pub run_mixes : (case : Parts) → IsCase case → (n b k : ℕ) (x : Line) → TravelsFor case b x k → MixesWaves b x (record_back (records_upto case n) k) (latest (records_upto case n))
run_mixes case fits n b k x is =
    let here = branch_fits case b (OfLine x) fits.draft.network.branches (slice_get_within case.branches b (OfLine x) is.there) is.there in
    let step = fits.draft.run.dt in
    -- the travel time doesn't go by the resistance
    let as_lossless = whole_mode case.run.dt (record x { r = pos 0 }) k step here.numbers.surge refl is.travels in
    let whole : IsWholeFor (mode_of_line case.run.dt x) k = record { steps = as_lossless.steps; rest = as_lossless.rest } in
    let j = some_travel case.run.dt x.delay k (some case.run.dt step.least) here.numbers.long is.travels in
    subst (λ i. MixesWaves b x (record_back (records_upto case n) i) (latest (records_upto case n))) (sym j.1)
    (chain_mixes case (records_upto case n) b j.0 x (subst (IsWholeFor (mode_of_line case.run.dt x)) j.1 whole) (positive (end_impedance x) here.numbers.impedance.least) is.there (chain case n))
  where
    some : (z : ℤ) → pos 1000 ≤ℤ z → pos 1 ≤ℤ z
    some z l = omega (arith, ints, l)

    positive : (z : ℤ) → pos LEAST_IMPEDANCE ≤ℤ z → z ≢ pos 0
    positive z l none = omega (arith, ints, l, none)
