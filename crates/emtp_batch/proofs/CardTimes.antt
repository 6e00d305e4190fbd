-- The times of the cards.
use Rattle.std.proofs.Common.{◌≡◌, ◌∙◌, ap, ℕ, ◌+◌, ◌<◌, List, [], ◌∷◌, ◌++◌, length, count_by, take, ◌≤◌, append-nil, All, Some, None, refl, sym, add-one, arith, if◌then◌else◌}
use Rattle.std.proofs.Math.Seq.{take-suc}
use Rattle.std.proofs.lemmas.List.Elements.{All-cons, All-nil, All-head, All-tail, filter_map-append}
use Rattle.std.proofs.lemmas.List.Sums.{sum_by-cons}
use Rattle.std.proofs.lemmas.List.{take_all}
use Rattle.std.specs.List.{cons_option}
use Rattle.std.specs.Prelude.{slice_index_or}
use Rattle.emtp_case.specs.held.Sizes.{Sizes}
use Rattle.emtp_case.specs.Switch.{card_times, is_time_kind, is_time_switch, own_times, times_of_kind}
use Rattle.emtp_case.specs.held.Switch.{IsSwitch, IsSwitchKind}
use Rattle.emtp_case.specs.declared.switch.Switch.{Switch}
use Rattle.emtp_case.specs.declared.switch.SwitchKind.{SwitchKind}
use Rattle.emtp_case.specs.declared.switch.SwitchKind.TheVariants.{Control, Measuring, Time, Valve}
use Rattle.emtp_case.specs.declared.switch.Times.{Times}
use Rattle.emtp_batch.specs.held.Row.{AreTimesInRange}

pub length-card_times : (ss : List Switch) → length (card_times ss) ≡ count_by is_time_switch ss
length-card_times [] = refl
length-card_times (s ∷ ss) =
    by s.kind ∙ ap (λ n. (if is_time_switch s then 1 else 0) + n) (length-card_times ss) ∙ sym (sum_by-cons (λ x. if is_time_switch x then 1 else 0) s ss)
  where
    by : (k : SwitchKind) → length (cons_option (times_of_kind k) (card_times ss)) ≡ (if is_time_kind k then 1 else 0) + length (card_times ss)
    by (Time close open_at margin) = omega arith
    by Measuring = omega arith
    by (Valve ignition holding control) = omega arith
    by (Control control) = omega arith

pub card_times-in_range : (n : Sizes) (ss : List Switch) → All (IsSwitch n) ss → All AreTimesInRange (card_times ss)
card_times-in_range n [] h = All-nil AreTimesInRange
card_times-in_range n (s ∷ ss) h = by s.kind (All-head (IsSwitch n) s ss h).kind (card_times-in_range n ss (All-tail (IsSwitch n) s ss h))
  where
    by : (k : SwitchKind) → IsSwitchKind n k → All AreTimesInRange (card_times ss) → All AreTimesInRange (cons_option (times_of_kind k) (card_times ss))
    by (Time close open_at margin) here rest = All-cons AreTimesInRange (record { close = close; open_at = open_at }) (card_times ss) here.0 rest
    by Measuring here rest = rest
    by (Valve ignition holding control) here rest = rest
    by (Control control) here rest = rest

-- the times of one switch more
pub one_more : (ss : List Switch) (at : ℕ) (d : Switch) → at < length ss → card_times (take (at + 1) ss) ≡ card_times (take at ss) ++ cons_option (own_times (slice_index_or ss at d)) []
one_more ss at d within = rw add-one (ap card_times (take-suc ss at d within) ∙ filter_map-append own_times (take at ss) (slice_index_or ss at d ∷ []))

pub put : (ss : List Switch) (old new : List Times) (at : ℕ) (d : Switch) (own : Times) → at < length ss → old ≡ card_times (take at ss) → own_times (slice_index_or ss at d) ≡ Some own → new ≡ old ++ own ∷ []
    → new ≡ card_times (take (at + 1) ss)
put ss old new at d own within was is pushed =
    pushed ∙ ap (λ xs. xs ++ own ∷ []) was ∙ ap (λ o. card_times (take at ss) ++ cons_option o []) (sym is) ∙ sym (one_more ss at d within)

pub pass : (ss : List Switch) (old new : List Times) (at : ℕ) (d : Switch) → at < length ss → old ≡ card_times (take at ss) → own_times (slice_index_or ss at d) ≡ None → new ≡ old
    → new ≡ card_times (take (at + 1) ss)
pass ss old new at d within was is stays =
    stays ∙ was ∙ sym (append-nil (card_times (take at ss))) ∙ ap (λ o. card_times (take at ss) ++ cons_option o []) (sym is) ∙ sym (one_more ss at d within)

pub all_taken : (ss : List Switch) (times : List Times) (at : ℕ) → times ≡ card_times (take at ss) → length ss ≤ at → times ≡ card_times ss
all_taken ss times at is past = is ∙ ap card_times (take_all at ss past)
