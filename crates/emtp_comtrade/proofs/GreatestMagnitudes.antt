-- The greatest magnitudes of the channels, sample by sample.
use Rattle.std.proofs.Common.{◌≡◌, inl, inr, ℕ, ◌+◌, ◌^◌, ◌<◌, ◌≤◌, max, ℤ, unsigned_abs, List, length, get_or, set, replicate, add-one, arith, sym, ◌∙◌, ap}
use Rattle.std.proofs.lemmas.Bool.{cases_order}
use Rattle.std.proofs.lemmas.List.{get_or-replicate, get_or-set_same, get_or-set_other}
use Rattle.emtp_comtrade.specs.held.Record.{AreGreatest}
use Rattle.emtp_machine.specs.Samples.{value_at, greatest}

-- in no sample each is 0
pub greatest-none : (rows : List (List ℤ)) (channels : ℕ) → channels ≤ 64 → AreGreatest rows channels 0 0 (replicate 64 0)
greatest-none rows channels few = record {
  raised = λ place less. absurd (omega arith);
  left = λ place from less. get_or-replicate {A = ℕ} 64 place 0 0 (omega arith);
  small = λ place less. omega (arith, get_or-replicate {A = ℕ} 64 place 0 0 (omega arith));
}

-- one more channel of a sample
pub greatest-channel : (rows : List (List ℤ)) (channels n k : ℕ) (magnitudes : List ℕ) (magnitude : ℕ)
    → AreGreatest rows channels n k magnitudes → k < channels → k < length magnitudes
    → magnitude ≡ unsigned_abs (value_at rows n k) → magnitude ≤ 2 ^ 63
    → AreGreatest rows channels n (k + 1) (set magnitudes k (max (get_or magnitudes k 0) magnitude))
greatest-channel rows channels n k magnitudes magnitude are below within is small =
    let next = max (get_or magnitudes k 0) magnitude in
    let here : get_or (set magnitudes k next) k 0 ≡ next = get_or-set_same magnitudes k next 0 within in
    let before : get_or magnitudes k 0 ≡ greatest rows k n = are.left k (omega arith) below in
    let one : greatest rows k (n + 1) ≡ max (greatest rows k n) (unsigned_abs (value_at rows n k)) =
    ap (λ (m : ℕ). greatest rows k m) (add-one n) in
    let raised : get_or (set magnitudes k next) k 0 ≡ greatest rows k (n + 1) =
    here ∙ ap (λ (m : ℕ). max m magnitude) before ∙ ap (λ (m : ℕ). max (greatest rows k n) m) is ∙ sym one in
    record {
      raised = λ place less. elim (cases_order place k) as (λ _. get_or (set magnitudes k next) place 0 ≡ greatest rows place (n + 1)) [
        | inl same ↦
            ap (λ (m : ℕ). get_or (set magnitudes k next) m 0) same ∙ raised ∙ ap (λ (m : ℕ). greatest rows m (n + 1)) (sym same)
        | inr (inl before) ↦
            get_or-set_other magnitudes k place next 0 (λ e. absurd (omega (arith, e))) ∙ are.raised place before
        | inr (inr after) ↦ absurd (omega arith)
      ];
      left = λ place from less.
          get_or-set_other magnitudes k place next 0 (λ e. absurd (omega (arith, e))) ∙ are.left place (omega arith) less;
      small = λ place less. elim (cases_order place k) as (λ _. get_or (set magnitudes k next) place 0 ≤ 2 ^ 63) [
        | inl same ↦
            omega (arith, ap (λ (m : ℕ). get_or (set magnitudes k next) m 0) same, here, are.small k below, small)
        | inr (inl before) ↦
            omega (arith, get_or-set_other magnitudes k place next 0 (λ e. absurd (omega (arith, e))), are.small place less)
        | inr (inr after) ↦
            omega (arith, get_or-set_other magnitudes k place next 0 (λ e. absurd (omega (arith, e))), are.small place less)
      ];
    }

-- after the last channel, the sample is one of those before the next
pub greatest-sample : (rows : List (List ℤ)) (channels n : ℕ) (magnitudes : List ℕ)
    → AreGreatest rows channels n channels magnitudes → AreGreatest rows channels (n + 1) 0 magnitudes
greatest-sample rows channels n magnitudes are = record {
  raised = λ place less. absurd (omega arith);
  left = λ place from less. are.raised place less;
  small = are.small;
}
