-- A line doesn't amplify, and answers alike from both ends.
use Rattle.std.proofs.Common.{◌≡◌, ◌∙◌, ◌+◌, ◌-◌, ◌*◌, ◌≤◌, ◌^◌, ℕ, ℤ, pos, negsuc, neg_ℤ, ◌+ℤ◌, ◌-ℤ◌, ◌*ℤ◌, ◌≤ℤ◌, ◌<◌, unsigned_abs, List, length, slice_get, slice_index_or, map, Option, Some, None, option_map, lit≤, refl, ap, arith}
use Rattle.std.proofs.Math.IntN.{*ℤ_comm}
use Rattle.std.proofs.lemmas.Int.{ints}
use Rattle.std.proofs.lemmas.Simd.{map-map}
use Rattle.std.proofs.lemmas.Option.{slice_get_within}
use Rattle.emtp_case.specs.held.Case.{IsCase}
use Rattle.emtp_case.specs.declared.branch.Branch.TheVariants.{Line as OfLine}
use Rattle.emtp_case.specs.declared.branch.Line.{Line}
use Rattle.emtp_case.specs.declared.branch.LineState.{LineState}
use Rattle.emtp_case.specs.declared.branch.PhaseState.{PhaseState}
use Rattle.emtp_case.specs.declared.case.Parts.{Parts}
use Rattle.emtp_net.proofs.Nodes.{branch_fits}
use Rattle.emtp_fix.proofs.Nearest.{near_abs-mono, unsigned_abs-near}
use Rattle.emtp_fix.proofs.Quotients.{between-within, near-apart, near-exact, near-nonneg}
use Rattle.emtp_fix.proofs.Wide.{abs-mul-le, mul_add}
use Rattle.emtp_fix.specs.Limit.{◌>>=◌}
use Rattle.emtp_fix.specs.Rounding.{near}
use Rattle.emtp_fix.specs.declared.limit.TheConstants.{PICO}
use Rattle.emtp_hist.specs.History.{value_before}
use Rattle.emtp_line.specs.Line.{from_waves, line_histories, line_state, next_state, to_waves}
use Rattle.emtp_line.proofs.Bounds.{mode_fits}
use Rattle.emtp_line.specs.Lines.{no_trio, trio_of}
use Rattle.emtp_line.specs.Mode.{mode_of, mode_of_line}
use Rattle.emtp_line.specs.held.Mode.{IsMode}
use Rattle.emtp_line.specs.Phases.{modes_of, phase_from_waves, phase_to_waves, zero_from_waves, zero_to_waves}
use Rattle.emtp_line.specs.Wave.{end_of, history_of, past_wave}
use Rattle.emtp_line.specs.declared.mode.Mode.{Mode}
use Rattle.emtp_laws.specs.Branches.{AreHistoriesWithin, ArePhaseWavesWithin, AreWavesWithin, phase_histories, reversed_line}

-- ---- no wave grows

-- a share of a number within a limit is at most the share of the limit
share_within : (a p : ℤ) (limit : ℕ) → unsigned_abs p ≤ limit → pos 0 ≤ℤ a → unsigned_abs (near (a *ℤ p) PICO) ≤ unsigned_abs (near (a *ℤ pos limit) PICO)
share_within a p limit small low =
    let size : unsigned_abs (a *ℤ p) ≤ unsigned_abs (a *ℤ pos limit) = omega (arith, abs-mul-le a p (unsigned_abs a) limit (omega arith) small, whole a limit low) in
    let most = near_abs-mono (unsigned_abs (a *ℤ p)) (unsigned_abs (a *ℤ pos limit)) (unsigned_abs PICO) size in
    omega (arith, most, unsigned_abs-near (a *ℤ p) PICO, unsigned_abs-near (a *ℤ pos limit) PICO)
  where
    whole : (a : ℤ) (n : ℕ) → pos 0 ≤ℤ a → unsigned_abs a * n ≤ unsigned_abs (a *ℤ pos n)
    whole (pos a) n low = omega (arith, ints)
    whole (negsuc a) n low = absurd (omega (arith, ints, low))

share_some : (a : ℤ) (limit : ℕ) → pos 0 ≤ℤ a → pos (unsigned_abs (near (a *ℤ pos limit) PICO)) ≡ near (a *ℤ pos limit) PICO
share_some a limit low = magnitude (near (a *ℤ pos limit) PICO) (near-nonneg (a *ℤ pos limit) PICO (product a limit low) (omega (arith, ints)))
  where
    magnitude : (x : ℤ) → pos 0 ≤ℤ x → pos (unsigned_abs x) ≡ x
    magnitude x h = omega (arith, ints, h)

    product : (a : ℤ) (n : ℕ) → pos 0 ≤ℤ a → pos 0 ≤ℤ (a *ℤ pos n)
    product (pos a) n low = omega (arith, ints)
    product (negsuc a) n low = absurd (omega (arith, ints, low))

-- two shares that make a whole
shares_within : (a b p q : ℤ) (limit : ℕ) → pos 0 ≤ℤ a → pos 0 ≤ℤ b → a +ℤ b ≡ PICO → unsigned_abs p ≤ limit → unsigned_abs q ≤ limit → unsigned_abs (neg_ℤ (near (a *ℤ p) PICO) -ℤ near (b *ℤ q) PICO) ≤ limit + 1
shares_within a b p q limit low_a low_b whole small_p small_q =
    let x = near (a *ℤ pos limit) PICO in
    let y = near (b *ℤ pos limit) PICO in
    let both : a *ℤ pos limit +ℤ b *ℤ pos limit ≡ pos limit *ℤ PICO = omega (arith, ints, *ℤ_comm a (pos limit), *ℤ_comm b (pos limit), mul_add (pos limit) a b, ap (λ z. pos limit *ℤ z) whole) in
    let sum : near (a *ℤ pos limit +ℤ b *ℤ pos limit) PICO ≡ pos limit = ap (λ z. near z PICO) both ∙ near-exact (pos limit) (10 ^ 12) (omega arith) in
    let apart = near-apart (a *ℤ pos limit) (b *ℤ pos limit) PICO (λ e. absurd (omega (arith, ints, e))) in
    omega (arith, ints, share_within a p limit small_p low_a, share_within b q limit small_q low_b, share_some a limit low_a, share_some b limit low_b, sum, apart)

past_small : (m : Mode) (waves : List ℤ) (limit : ℕ) → IsMode m → AreWavesWithin limit waves → unsigned_abs (past_wave m waves) ≤ limit
past_small m waves limit is small =
    between-within m.rest m.dt (value_before waves (m.steps - 1)) (value_before waves m.steps) limit is.rest.least (omega (arith, ints, is.rest_below)) (small (m.steps - 1)) (small m.steps)

pub history_small : (m : Mode) (other own : List ℤ) (limit : ℕ) → IsMode m → m.far_share +ℤ m.near_share ≡ PICO → AreWavesWithin limit other → AreWavesWithin limit own → unsigned_abs (history_of m other own) ≤ limit + 1
history_small m other own limit is whole small_other small_own =
    shares_within m.far_share m.near_share (past_wave m other) (past_wave m own) limit is.far_share.least is.near_share.least whole (past_small m other limit is small_other) (past_small m own limit is small_own)

-- ---- from the other end

from_to : (past : List LineState) → from_waves (map reversed_line past) ≡ to_waves past
from_to past = map-map (λ (s : LineState). s.from_wave) reversed_line past

to_from : (past : List LineState) → to_waves (map reversed_line past) ≡ from_waves past
to_from past = map-map (λ (s : LineState). s.to_wave) reversed_line past

state_reversed : (m : Mode) (h k v w : ℤ) → line_state m (k, h) w v ≡ option_map reversed_line (line_state m (h, k) v w)
unfolding line_state
state_reversed m h k v w = by (end_of m h v) (end_of m k w)
  where
    by : (a b : Option (ℤ × ℤ)) → (b >>= (λ f. a >>= (λ t. Some (let s : LineState = record { from_current = f.0; to_current = t.0; from_wave = f.1; to_wave = t.1 } in s))))
        ≡ option_map reversed_line (a >>= (λ f. b >>= (λ t. Some (let s : LineState = record { from_current = f.0; to_current = t.0; from_wave = f.1; to_wave = t.1 } in s))))
    by None None = refl
    by None (Some y) = refl
    by (Some x) None = refl
    by (Some x) (Some y) = refl

pub line_reversed : (m : Mode) (past : List LineState) (v w : ℤ) → next_state m (map reversed_line past) w v ≡ option_map reversed_line (next_state m past v w)
line_reversed m past v w =
    let h = line_histories m past in
    ap (λ f. line_state m (history_of m (to_waves (map reversed_line past)) f, history_of m f (to_waves (map reversed_line past))) w v) (from_to past)
    ∙ ap (λ t. line_state m (history_of m t (to_waves past), history_of m (to_waves past) t) w v) (to_from past)
    ∙ state_reversed m h.0 h.1 v w

-- ---- the lines of a case

-- both shares of a mode make a whole
whole_shares : (dt zc r delay : ℤ) → (mode_of dt zc r delay).far_share +ℤ (mode_of dt zc r delay).near_share ≡ PICO
whole_shares dt zc r delay = omega (arith, ints)

pub histories_small : (case : Parts) (b : ℕ) (x : Line) (past : List LineState) (limit : ℕ) → IsCase case → slice_get case.branches b ≡ Some (OfLine x) → AreWavesWithin limit (from_waves past) → AreWavesWithin limit (to_waves past)
    → AreHistoriesWithin (limit + 1) (line_histories (mode_of_line case.run.dt x) past)
histories_small case b x past limit fits is small_from small_to =
    let here = branch_fits case b (OfLine x) fits.draft.network.branches (slice_get_within case.branches b (OfLine x) is) is in
    let ranges = mode_fits case.run.dt x.zc x.r x.delay fits.draft.run.dt here.numbers in
    let whole = whole_shares case.run.dt x.zc x.r x.delay in
    let m = mode_of_line case.run.dt x in record {
      at_from = history_small m (to_waves past) (from_waves past) limit ranges whole small_to small_from;
      at_to = history_small m (from_waves past) (to_waves past) limit ranges whole small_from small_to;
    }

-- each history current of a phase is the sum of those of two modes
pub phase_small : (case : Parts) (t : ℕ) (first past : List PhaseState) (zero_limit limit : ℕ) → IsCase case → t < length case.trios → ArePhaseWavesWithin zero_limit limit first past
    → AreHistoriesWithin (zero_limit + limit + 2) (phase_histories (modes_of case.run.dt (trio_of case t)) first past)
phase_small case t first past zero_limit limit fits there waves =
    let dt = case.run.dt in
    let trio = trio_of case t in
    let m = modes_of dt trio in
    let numbers = fits.draft.network.trios t no_trio there in
    let zero_fits = mode_fits dt _ _ _ fits.draft.run.dt (numbers 0 (lit≤ tt)) in
    let own_fits = mode_fits dt _ _ _ fits.draft.run.dt (numbers 1 (lit≤ tt)) in
    let zero_whole = whole_shares dt (slice_index_or trio.zc 0 (pos 0)) (slice_index_or trio.r 0 (pos 0)) (slice_index_or trio.delay 0 (pos 0)) in
    let own_whole = whole_shares dt (slice_index_or trio.zc 1 (pos 0)) (slice_index_or trio.r 1 (pos 0)) (slice_index_or trio.delay 1 (pos 0)) in
    let from_zero = history_small m.zero_sequence (zero_to_waves first) (zero_from_waves first) zero_limit zero_fits zero_whole waves.zero_to waves.zero_from in
    let from_own = history_small m.positive (phase_to_waves past) (phase_from_waves past) limit own_fits own_whole waves.own_to waves.own_from in
    let to_zero = history_small m.zero_sequence (zero_from_waves first) (zero_to_waves first) zero_limit zero_fits zero_whole waves.zero_from waves.zero_to in
    let to_own = history_small m.positive (phase_from_waves past) (phase_to_waves past) limit own_fits own_whole waves.own_from waves.own_to in
    record { at_from = omega (arith, ints, from_zero, from_own); at_to = omega (arith, ints, to_zero, to_own) }
