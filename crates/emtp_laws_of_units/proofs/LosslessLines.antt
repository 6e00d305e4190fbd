-- A line without loss whose travel time is whole steps: its numbers by the card, and a step of it.
use Rattle.std.proofs.Common.{◌≡◌, ◌∙◌, ◌≢◌, ◌+◌, ◌-◌, ◌*◌, ◌^◌, ◌<◌, ◌≤◌, ◌%◌, ap, sym, subst, refl, ℕ, ℤ, pos, negsuc, neg_ℤ, ◌+ℤ◌, ◌-ℤ◌, ◌*ℤ◌, ◌≤ℤ◌, ◌<ℤ◌, unsigned_abs, List, get_or, Some, arith}
use Rattle.std.proofs.Math.IntN.{*ℤ_comm}
use Rattle.std.proofs.Math.Nat.{mod-eq-sub-div-mul}
use Rattle.std.proofs.lemmas.Int.{ints}
use Rattle.std.proofs.lemmas.Nat.{div-mul-add}
use Rattle.std.proofs.lemmas.Option.{same_Some}
use Rattle.emtp_case.specs.held.Range.{IsBetween}
use Rattle.emtp_case.specs.held.RunData.{IsTimeStep}
use Rattle.emtp_case.specs.StepRecord.{no_line}
use Rattle.emtp_case.specs.declared.branch.Line.{Line}
use Rattle.emtp_case.specs.declared.branch.LineState.{LineState}
use Rattle.emtp_fix.proofs.Nearest.{near-rest, near-zero}
use Rattle.emtp_fix.proofs.Quotients.{near-exact, near-zero_times}
use Rattle.emtp_fix.proofs.Ranges.{in_range-is}
use Rattle.emtp_fix.proofs.Wide.{mul_add}
use Rattle.emtp_fix.specs.Limit.{in_range}
use Rattle.emtp_fix.specs.Rounding.{near}
use Rattle.emtp_fix.specs.declared.limit.TheConstants.{ATTO, LARGEST_IMPEDANCE, LEAST_IMPEDANCE, PICO}
use Rattle.emtp_line.proofs.Physics.{arrives, lossless, waves_read}
use Rattle.emtp_hist.specs.History.{value_before}
use Rattle.emtp_line.specs.Laws.{IsLossless}
use Rattle.emtp_line.specs.Line.{from_waves, line_histories, line_state, next_state, to_waves}
use Rattle.emtp_line.specs.Mode.{mode_of, mode_of_line}
use Rattle.emtp_line.specs.Wave.{between, current_of, end_of, history_of, past_wave, wave_of}
use Rattle.emtp_line.specs.declared.mode.Mode.{Mode}
use Rattle.emtp_laws.proofs.Products.{mul_sub, sub_mul}
use Rattle.emtp_laws.proofs.SeriesSteps.{then_some}
use Rattle.emtp_laws_of_units.specs.Travel.{LiesBetween, received, sent, surge_conductance}

-- ---- its numbers

-- a line without loss, whose travel time is k steps of dt and a rest
pub record IsSplit (m : Mode) (x : Line) (dt : ℤ) (k : ℕ) (part : ℤ) : Type 0 where
  pub no_loss : IsLossless m
  pub conductance : m.conductance ≡ surge_conductance x
  pub steps : m.steps ≡ k
  pub rest : m.rest ≡ part
  pub step : m.dt ≡ dt

rest_of_steps : (d k e : ℕ) → e < d → (k * d + e) % d ≡ e
rest_of_steps d k e below = mod-eq-sub-div-mul (k * d + e) d ∙ ap (λ q. k * d + e - q * d) (div-mul-add k d e below) ∙ what_is_left (k * d) e
  where
    what_is_left : (n e : ℕ) → n + e - n ≡ e
    what_is_left n e = omega arith

pub split_mode : (dt : ℤ) (x : Line) (k : ℕ) (part : ℤ) → IsTimeStep dt → IsBetween LEAST_IMPEDANCE LARGEST_IMPEDANCE x.zc → x.r ≡ pos 0 → x.delay ≡ pos k *ℤ dt +ℤ part → pos 0 ≤ℤ part → part <ℤ dt → IsSplit (mode_of_line dt x) x dt k part
split_mode (pos d) x k (pos e) step surge none travels some below =
    let less : e < d = omega (arith, ints, below) in
    let plain : mode_of_line (pos d) x ≡ mode_of (pos d) x.zc (pos 0) (pos (k * d + e)) = ap (λ r. mode_of (pos d) x.zc r x.delay) none ∙ ap (mode_of (pos d) x.zc (pos 0)) travels in
    let quarter : x.zc +ℤ near (pos 0) (pos 4) ≡ x.zc = ap (λ z. x.zc +ℤ z) (near-zero (pos 4)) ∙ as_it_is x.zc in
    record {
      no_loss = subst IsLossless (sym plain) (lossless (pos d) x.zc (pos (k * d + e)) surge);
      conductance = ap (λ (m : Mode). m.conductance) plain ∙ ap (near ATTO) quarter;
      steps = ap (λ (m : Mode). m.steps) plain ∙ div-mul-add k d e less;
      rest = ap (λ (m : Mode). m.rest) plain ∙ ap pos (rest_of_steps d k e less);
      step = refl;
    }
  where
    as_it_is : (z : ℤ) → z +ℤ pos 0 ≡ z
    as_it_is z = omega (arith, ints)
split_mode (pos d) x k (negsuc e) step surge none travels some below = absurd (omega (arith, ints, some))
split_mode (negsuc d) x k part step surge none travels some below = absurd (omega (arith, ints, some, below))

pub record IsWhole (m : Mode) (x : Line) (k : ℕ) : Type 0 where
  pub no_loss : IsLossless m
  pub conductance : m.conductance ≡ surge_conductance x
  pub steps : m.steps ≡ k
  pub rest : m.rest ≡ pos 0

pub whole_mode : (dt : ℤ) (x : Line) (k : ℕ) → IsTimeStep dt → IsBetween LEAST_IMPEDANCE LARGEST_IMPEDANCE x.zc → x.r ≡ pos 0 → x.delay ≡ pos k *ℤ dt → IsWhole (mode_of_line dt x) x k
whole_mode dt x k step surge none travels =
    let split = split_mode dt x k (pos 0) step surge none (omega (arith, ints, travels)) (omega (arith, ints)) (omega (arith, ints, step.least)) in
    record { no_loss = split.no_loss; conductance = split.conductance; steps = split.steps; rest = split.rest }

-- ---- a step, inverted

-- current and wave of an end follow from its history current and its voltage
pub record IsEnd (m : Mode) (history v i w : ℤ) : Type 0 where
  pub current : i ≡ current_of m history v
  pub wave : w ≡ wave_of m v i

ends : (m : Mode) (history v : ℤ) (s : ℤ × ℤ) → end_of m history v ≡ Some s → IsEnd m history v s.0 s.1
unfolding end_of
ends m history v s e =
    let i = then_some (in_range (current_of m history v)) _ s e in
    let w = then_some (in_range (wave_of m v i.0)) _ s i.2 in
    subst (λ (t : ℤ × ℤ). IsEnd m history v t.0 t.1) (same_Some (i.0, w.0) s w.2) (record { current = in_range-is (current_of m history v) i.0 i.1; wave = in_range-is (wave_of m v i.0) w.0 w.1 })

pub record IsLineStep (m : Mode) (past : List LineState) (v w : ℤ) (new : LineState) : Type 0 where
  pub «from» : IsEnd m (line_histories m past).0 v new.from_current new.from_wave
  pub to : IsEnd m (line_histories m past).1 w new.to_current new.to_wave

pub stepped : (m : Mode) (past : List LineState) (v w : ℤ) (new : LineState) → next_state m past v w ≡ Some new → IsLineStep m past v w new
unfolding line_state
stepped m past v w new e =
    let f = then_some (end_of m (line_histories m past).0 v) _ new e in
    let t = then_some (end_of m (line_histories m past).1 w) _ new f.2 in
    let made : LineState = record { from_current = f.0.0; to_current = t.0.0; from_wave = f.0.1; to_wave = t.0.1 } in
    subst (IsLineStep m past v w) (same_Some made new t.2) (record {
      «from» = ends m (line_histories m past).0 v f.0 f.1;
      to = ends m (line_histories m past).1 w t.0 t.1;
    })

-- ---- what comes to an end

received_at : (m : Mode) (x : Line) (k : ℕ) (other own : List ℤ) (v i u j : ℤ) → IsWhole m x k → i ≡ current_of m (history_of m other own) v → get_or other (k - 1) (pos 0) ≡ wave_of m u j → received x v i ≡ sent x u j
received_at m x k other own v i u j whole is left =
    let there : get_or other (m.steps - 1) (pos 0) ≡ wave_of m u j = ap (λ n. get_or other (n - 1) (pos 0)) whole.steps ∙ left in
    let history = arrives m other own u j whole.no_loss whole.rest there in
    joined (near (m.conductance *ℤ v) PICO) (near (m.conductance *ℤ u) PICO) (near (surge_conductance x *ℤ v) PICO) (near (surge_conductance x *ℤ u) PICO) (history_of m other own) i j is history (ap (λ g. near (g *ℤ v) PICO) whole.conductance) (ap (λ g. near (g *ℤ u) PICO) whole.conductance)
  where
    joined : (a b c d h i j : ℤ) → i ≡ a +ℤ h → h ≡ neg_ℤ (b +ℤ j) → a ≡ c → b ≡ d → c -ℤ i ≡ d +ℤ j
    joined a b c d h i j p q r s = omega (arith, ints)

-- a step brings to both ends what left the others so many records before, where these keep the waves of their voltages and
-- currents
pub comes : (m : Mode) (x : Line) (k : ℕ) (past : List LineState) (v w u z : ℤ) (new : LineState) → IsWhole m x k → IsLineStep m past v w new
    → (get_or past (k - 1) no_line).from_wave ≡ wave_of m u (get_or past (k - 1) no_line).from_current
    → (get_or past (k - 1) no_line).to_wave ≡ wave_of m z (get_or past (k - 1) no_line).to_current
    → (received x w new.to_current ≡ sent x u (get_or past (k - 1) no_line).from_current) × (received x v new.from_current ≡ sent x z (get_or past (k - 1) no_line).to_current)
comes m x k past v w u z new whole step from_left to_left = (
  received_at m x k (from_waves past) (to_waves past) w new.to_current u (get_or past (k - 1) no_line).from_current whole step.to.current (waves_read (λ (s : LineState). s.from_wave) refl past (k - 1) ∙ from_left),
  received_at m x k (to_waves past) (from_waves past) v new.from_current z (get_or past (k - 1) no_line).to_current whole step.from.current (waves_read (λ (s : LineState). s.to_wave) refl past (k - 1) ∙ to_left),
)

-- ---- what comes between two steps

by_pico : (z : ℤ) → near (PICO *ℤ z) PICO ≡ z
by_pico z = ap (λ y. near y PICO) (*ℤ_comm PICO z) ∙ near-exact z (10 ^ 12) (omega arith)

-- of a line without loss the history current is that of the other end's wave alone
history_alone : (m : Mode) (other own : List ℤ) → IsLossless m → history_of m other own ≡ neg_ℤ (past_wave m other)
history_alone m other own h =
    let p = past_wave m other in
    let q = past_wave m own in
    ap (λ a. neg_ℤ (near (a *ℤ p) PICO) -ℤ near (m.near_share *ℤ q) PICO) h.far_share
    ∙ ap (λ z. neg_ℤ z -ℤ near (m.near_share *ℤ q) PICO) (by_pico p)
    ∙ ap (λ b. neg_ℤ p -ℤ near (b *ℤ q) PICO) h.near_share
    ∙ ap (λ z. neg_ℤ p -ℤ z) (near-zero_times q PICO)
    ∙ less_none (neg_ℤ p)
  where
    less_none : (z : ℤ) → z -ℤ pos 0 ≡ z
    less_none z = omega (arith, ints)

-- the wave that leaves an end is what it sends
leaves : (m : Mode) (x : Line) (v i : ℤ) → IsLossless m → m.conductance ≡ surge_conductance x → wave_of m v i ≡ sent x v i
leaves m x v i h same =
    ap (λ g. near (g *ℤ v) PICO +ℤ near (m.attenuation *ℤ i) PICO) same
    ∙ ap (λ a. near (surge_conductance x *ℤ v) PICO +ℤ near (a *ℤ i) PICO) h.attenuation
    ∙ ap (λ z. near (surge_conductance x *ℤ v) PICO +ℤ z) (by_pico i)

-- a wave on the straight line from a newer one to an older one
lies_between : (dt part comes newer older : ℤ) → dt ≢ pos 0 → comes ≡ newer +ℤ near (part *ℤ (older -ℤ newer)) dt → LiesBetween dt part comes newer older
lies_between dt part comes newer older some is =
    let rise = part *ℤ (older -ℤ newer) in
    let q = near rise dt in
    joined (dt *ℤ comes) (dt *ℤ newer) (q *ℤ dt) ((dt -ℤ part) *ℤ newer) (part *ℤ newer) (part *ℤ older) rise (unsigned_abs dt)
    (ap (λ z. dt *ℤ z) is ∙ mul_add dt newer q ∙ ap (λ z. dt *ℤ newer +ℤ z) (*ℤ_comm dt q))
    (sub_mul dt part newer) (mul_sub part older newer) (near-rest rise dt some)
  where
    joined : (c n q p s o a : ℤ) (d : ℕ) → c ≡ n +ℤ q → p ≡ n -ℤ s → a ≡ o -ℤ s → 2 * unsigned_abs (a -ℤ q) ≤ d → 2 * unsigned_abs (c -ℤ (p +ℤ o)) ≤ d
    joined c n q p s o a d e f g h = omega (arith, ints, e, f, g, h)

-- what an end receives where the waves of the other one are these, k steps and one more before
pub received_between : (m : Mode) (x : Line) (dt : ℤ) (k : ℕ) (part : ℤ) (other own : List ℤ) (v i u j w l : ℤ) → IsSplit m x dt k part → dt ≢ pos 0 → i ≡ current_of m (history_of m other own) v
    → value_before other (k - 1) ≡ wave_of m u j → value_before other k ≡ wave_of m w l → LiesBetween dt part (received x v i) (sent x u j) (sent x w l)
received_between m x dt k part other own v i u j w l split some is new old =
    let newer : value_before other (m.steps - 1) ≡ sent x u j = ap (λ n. value_before other (n - 1)) split.steps ∙ new ∙ leaves m x u j split.no_loss split.conductance in
    let older : value_before other m.steps ≡ sent x w l = ap (value_before other) split.steps ∙ old ∙ leaves m x w l split.no_loss split.conductance in
    let wave : past_wave m other ≡ sent x u j +ℤ near (part *ℤ (sent x w l -ℤ sent x u j)) dt =
    ap (λ z. between m z (value_before other m.steps)) newer ∙ ap (λ z. between m (sent x u j) z) older
    ∙ ap (λ r. sent x u j +ℤ near (r *ℤ (sent x w l -ℤ sent x u j)) m.dt) split.rest
    ∙ ap (λ d. sent x u j +ℤ near (part *ℤ (sent x w l -ℤ sent x u j)) d) split.step in
    let comes : received x v i ≡ past_wave m other =
    joined (near (surge_conductance x *ℤ v) PICO) (near (m.conductance *ℤ v) PICO) (history_of m other own) (past_wave m other) i
    (ap (λ g. near (g *ℤ v) PICO) split.conductance) (history_alone m other own split.no_loss) is in
    lies_between dt part (received x v i) (sent x u j) (sent x w l) some (comes ∙ wave)
  where
    joined : (s g h p i : ℤ) → g ≡ s → h ≡ neg_ℤ p → i ≡ g +ℤ h → s -ℤ i ≡ p
    joined s g h p i e f is = omega (arith, ints, e, f, is)
