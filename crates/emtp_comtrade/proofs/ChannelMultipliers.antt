-- The multipliers of the channels below a place.
use Rattle.std.proofs.Common.{◌≡◌, inl, inr, ℕ, ◌+◌, ◌<◌, ◌≤◌, ℤ, pos, Bool, true, false, not, List, length, get_or, set, replicate, arith, sym, ◌∙◌, ap, subst}
use Rattle.std.proofs.lemmas.Bool.{cases_order}
use Rattle.std.proofs.lemmas.List.{get_or-replicate, get_or-set_same, get_or-set_other}
use Rattle.emtp_case.specs.declared.case.Parts.{Parts}
use Rattle.emtp_comtrade.specs.Record.{is_status_at, is_analog_at, analog_before, status_before, multiplier_at}
use Rattle.emtp_comtrade.specs.held.Record.{MultipliersBelow}
use Rattle.emtp_machine.specs.Samples.{greatest}
use Rattle.emtp_comtrade.specs.held.Multiplier.{IsMultiplier}
use Rattle.emtp_comtrade.proofs.Places.{count_below-le, count_below-pass, count_below-fail, count_below-less}

pub analog_before-status : (p : Parts) (place : ℕ) → is_status_at p place ≡ true → analog_before p (place + 1) ≡ analog_before p place
analog_before-status p place status = count_below-fail (is_analog_at p) place (ap (λ (b : Bool). not b) status)

pub analog_before-analog : (p : Parts) (place : ℕ) → is_status_at p place ≡ false → analog_before p (place + 1) ≡ analog_before p place + 1
analog_before-analog p place analog = count_below-pass (is_analog_at p) place (ap (λ (b : Bool). not b) analog)

-- a status channel has no multiplier
pub MultipliersBelow-status : (p : Parts) (samples : List (List ℤ)) (n : ℕ) (multipliers : List ℤ)
    → MultipliersBelow p samples n multipliers → is_status_at p n ≡ true → MultipliersBelow p samples (n + 1) multipliers
MultipliersBelow-status p samples n multipliers below status = record {
  analog = λ place less analog. elim (cases_order place n) as (λ _. get_or multipliers (analog_before p place) (pos 0) ≡ pos (multiplier_at samples place)) [
    | inl same ↦ let both : true ≡ false = sym status ∙ ap (is_status_at p) (sym same) ∙ analog in cc
    | inr order ↦ elim order as (λ _. get_or multipliers (analog_before p place) (pos 0) ≡ pos (multiplier_at samples place)) [
      | inl less' ↦ below.analog place less' analog
      | inr more ↦ absurd (omega arith)
    ]
  ];
  after = λ c le less. below.after c (omega (arith, le, analog_before-status p n status)) less;
  least = λ place less analog. elim (cases_order place n) as (λ _. IsMultiplier (greatest samples place (length samples)) (multiplier_at samples place)) [
    | inl same ↦ let both : true ≡ false = sym status ∙ ap (is_status_at p) (sym same) ∙ analog in cc
    | inr order ↦ elim order as (λ _. IsMultiplier (greatest samples place (length samples)) (multiplier_at samples place)) [
      | inl less' ↦ below.least place less' analog
      | inr more ↦ absurd (omega arith)
    ]
  ];
}

-- the multiplier of an analog channel stands after those of the ones before it
pub MultipliersBelow-analog : (p : Parts) (samples : List (List ℤ)) (n : ℕ) (multipliers : List ℤ) (multiplier : ℤ)
    → MultipliersBelow p samples n multipliers → is_status_at p n ≡ false → analog_before p n < length multipliers → multiplier ≡ pos (multiplier_at samples n)
    → IsMultiplier (greatest samples n (length samples)) (multiplier_at samples n)
    → MultipliersBelow p samples (n + 1) (set multipliers (analog_before p n) multiplier)
MultipliersBelow-analog p samples n multipliers multiplier below analog within is least = record {
  analog = λ place less analog'. elim (cases_order place n) as (λ _. get_or (set multipliers (analog_before p n) multiplier) (analog_before p place) (pos 0) ≡ pos (multiplier_at samples place)) [
    | inl same ↦
        ap (λ (m : ℕ). get_or (set multipliers (analog_before p n) multiplier) (analog_before p m) (pos 0)) same
        ∙ get_or-set_same multipliers (analog_before p n) multiplier (pos 0) within
        ∙ is
        ∙ ap (λ (m : ℕ). pos (multiplier_at samples m)) (sym same)
    | inr order ↦ elim order as (λ _. get_or (set multipliers (analog_before p n) multiplier) (analog_before p place) (pos 0) ≡ pos (multiplier_at samples place)) [
      | inl less' ↦
          let before : analog_before p place < analog_before p n = count_below-less (is_analog_at p) place n less' (ap (λ (b : Bool). not b) analog') in
          get_or-set_other multipliers (analog_before p n) (analog_before p place) multiplier (pos 0) (λ e. absurd (omega arith))
          ∙ below.analog place less' analog'
      | inr more ↦ absurd (omega arith)
    ]
  ];
  after = λ c le less.
      let before = analog_before-analog p n analog in
      get_or-set_other multipliers (analog_before p n) c multiplier (pos 0) (λ e. absurd (omega (arith, e, le, before)))
      ∙ below.after c (omega (arith, le, before)) less;
  least = λ place less' analog'. elim (cases_order place n) as (λ _. IsMultiplier (greatest samples place (length samples)) (multiplier_at samples place)) [
    | inl same ↦
        let Least : ℕ → Type 0 = λ m. IsMultiplier (greatest samples m (length samples)) (multiplier_at samples m) in
        subst Least (sym same) least
    | inr order ↦ elim order as (λ _. IsMultiplier (greatest samples place (length samples)) (multiplier_at samples place)) [
      | inl below' ↦ below.least place below' analog'
      | inr more ↦ absurd (omega arith)
    ]
  ];
}

-- no analog channel stands before the first place
pub MultipliersBelow-none : (p : Parts) (samples : List (List ℤ)) → MultipliersBelow p samples 0 (replicate 64 (pos 1))
MultipliersBelow-none p samples = record {
  analog = λ place less analog. absurd (omega arith);
  after = λ c le less. get_or-replicate 64 c (pos 1) (pos 0) less;
  least = λ place less analog. absurd (omega arith);
}

pub analog_before-within : (p : Parts) (place channels : ℕ) → place < channels → channels ≤ 64 → analog_before p place < 64
analog_before-within p place channels less few = omega (arith, count_below-le (is_analog_at p) place)

pub status_before-status : (p : Parts) (place : ℕ) → is_status_at p place ≡ true → status_before p (place + 1) ≡ status_before p place + 1
status_before-status p place status = count_below-pass (is_status_at p) place status

pub status_before-within : (p : Parts) (place channels : ℕ) → place < channels → channels ≤ 64 → status_before p place < 64
status_before-within p place channels less few = omega (arith, count_below-le (is_status_at p) place)
