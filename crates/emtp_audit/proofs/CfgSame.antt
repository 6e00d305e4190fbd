-- What the configuration that the program writes says, and that it has no difference.
use Rattle.std.proofs.Common.{◌≡◌, ◌++◌, ◌∙◌, sym, ap, ℕ, zero, suc, ◌+◌, ◌*◌, ◌^◌, ◌<◌, ◌≤◌, ℤ, pos, Bool, true, false, cond, not, List, [], ◌∷◌, map, length, get_or, unwrap_or, refl, arith, decimal, codes, inl, inr}
use Rattle.std.specs.Prelude.{max}
use Rattle.std.specs.Fmt.{digits}
use Rattle.std.proofs.lemmas.Bool.{cases_order}
use Rattle.std.proofs.lemmas.List.{get_or-append-add, get_or_append_left}
use Rattle.emtp_fix.specs.Decimal.{fixed_text}
use Rattle.emtp_card.specs.Numeral.{limited_whole}
use Rattle.emtp_card.specs.Field.{trimmed}
use Rattle.emtp_case.specs.held.Case.{IsCase}
use Rattle.emtp_case.specs.declared.case.Parts.{Parts}
use Rattle.emtp_audit.specs.declared.scale.Scale.{Scale}
use Rattle.emtp_comtrade.specs.Record.{joined, is_status_at, is_analog_at, analog_before, multiplier_at, sample_time, cfg_text}
use Rattle.emtp_audit.specs.Rules.{audited_lines, comma_fields}
use Rattle.emtp_comtrade.proofs.Places.{count_below-le, count_below-less}
use Rattle.emtp_audit.specs.Cfg.{scale_number, unit_number, rates_in, rates_on, scale_on, unit_on, unit_in, scales_in}
use Rattle.emtp_audit.proofs.Joined.{joined-at}
use Rattle.emtp_audit.specs.Numbers.{whole_of}
use Rattle.emtp_audit.proofs.FieldsOfPieces.{fields-pieces}
use Rattle.emtp_audit.proofs.CfgFields.{scale_number-fixed, unit_number-fixed, plain-fixed}
use Rattle.emtp_audit.proofs.CfgLines.{piece-plain, analog_pieces, analog_body, pieces-analog}
use Rattle.emtp_audit.proofs.CfgFile.{analog_lines_at, status_lines_at, tail_lines, cfg_lines, AreSmall, makes-cfg, audited-cfg, tail-at}
use Rattle.emtp_audit.proofs.CfgPlaces.{length-analog}
use Rattle.emtp_audit.proofs.DatLines.{scale_by, IsScaledBy}
use Rattle.emtp_audit.specs.declared.limit.TheConstants.{LARGEST_UNIT}

-- ---- the sampling rates, and the unit of time stamps

no_rates : rates_on (codes "0") ≡ 0
unfolding rates_on comma_fields trimmed whole_of limited_whole
no_rates = refl

pub rates-none : (p : Parts) (rows : List (List ℤ)) (unit : ℕ) → rates_in p (cfg_lines p rows unit) ≡ 0
rates-none p rows unit =
    ap rates_on (ap (λ (j : ℕ). get_or (cfg_lines p rows unit) j []) (place (length p.channels)) ∙ tail-at p rows unit 1)
    ∙ no_rates
  where
    place : (n : ℕ) → n + 3 ≡ n + 2 + 1
    place n = omega arith

pub unit-read : (p : Parts) (rows : List (List ℤ)) (unit : ℕ) → 1 ≤ unit → unit ≤ LARGEST_UNIT → unit_in p (cfg_lines p rows unit) ≡ pos unit
unfolding unit_on
unit-read p rows unit some few =
    ap (λ (r : ℕ). unit_on (get_or (cfg_lines p rows unit) (length p.channels + 7 + max r 1) [])) (rates-none p rows unit)
    ∙ ap unit_on
    (ap (λ (j : ℕ). get_or (cfg_lines p rows unit) j []) (place (length p.channels)) ∙ tail-at p rows unit 6)
    ∙ ap (λ (fs : List (List ℕ)). unwrap_or (unit_number (get_or fs 0 [])) (pos 0)) (fields-pieces (fixed_text (pos unit) 6) [] (piece-plain (fixed_text (pos unit) 6) (plain-fixed unit 6 (omega arith)), tt))
    ∙ ap (λ o. unwrap_or o (pos 0)) (unit_number-fixed unit some few)
  where
    place : (n : ℕ) → n + 7 + max 0 1 ≡ n + 2 + 6
    place n = omega arith

-- ---- the scales

-- the line of an analog channel among those of all
analog-at : (p : Parts) (rows : List (List ℤ)) (n place : ℕ) → place < n → is_status_at p place ≡ false
    → (analog_before p place < analog_before p n) × (get_or (joined n (analog_lines_at p rows)) (analog_before p place) [] ≡ analog_body p (multiplier_at rows place) place)
analog-at p rows zero place less analog = absurd (omega arith)
analog-at p rows (suc n) place less analog = elim (cases_order place n) as (λ _. (analog_before p place < analog_before p (suc n)) × (get_or (joined (suc n) (analog_lines_at p rows)) (analog_before p place) [] ≡ analog_body p (multiplier_at rows place) place)) [
  | inl same ↦
      let number : Bool → ℕ = λ t. cond (not t) 1 0 in
      let one : number (is_status_at p n) ≡ 1 = ap number (sym (ap (is_status_at p) same) ∙ analog) in (
        omega (arith, one, ap (analog_before p) same),
        ap (λ (j : ℕ). get_or (joined n (analog_lines_at p rows) ++ analog_lines_at p rows n) j []) (ap (analog_before p) same ∙ sym (length-analog p (λ place. analog_body p (multiplier_at rows place) place) n) ∙ none (length (joined n (analog_lines_at p rows))))
            ∙ get_or-append-add (joined n (analog_lines_at p rows)) (analog_lines_at p rows n) 0 []
            ∙ ap (λ (k : ℕ). get_or (analog_lines_at p rows k) 0 []) (sym same)
            ∙ ap (λ (t : Bool). get_or (cond t [] (analog_body p (multiplier_at rows place) place ∷ [])) 0 []) analog,
      )
  | inr (inl below) ↦
      let before = analog-at p rows n place below analog in (
        grows (is_status_at p n) (analog_before p place) (analog_before p n) before.0,
        get_or_append_left (joined n (analog_lines_at p rows)) (analog_lines_at p rows n) [] (analog_before p place) (omega (arith, before.0, length-analog p (λ place. analog_body p (multiplier_at rows place) place) n))
            ∙ before.1,
      )
  | inr (inr above) ↦ absurd (omega arith)
]
  where
    none : (k : ℕ) → k ≡ k + 0
    none k = omega arith

    grows : (t : Bool) (a b : ℕ) → a < b → a < b + cond (not t) 1 0
    grows true a b h = omega arith
    grows false a b h = omega arith

no_shift : unwrap_or (scale_number (trimmed (codes "0"))) (pos 0) ≡ pos 0
unfolding fixed_text digits
no_shift = ap (λ o. unwrap_or o (pos 0)) (scale_number-fixed 0 (omega arith))

pub scale-read : (p : Parts) (rows : List (List ℤ)) (unit place : ℕ) → IsCase p → AreSmall p rows → place < length p.channels → is_status_at p place ≡ false
    → scale_on (get_or (cfg_lines p rows unit) (2 + analog_before p place) []) ≡ scale_by (multiplier_at rows place)
unfolding scale_on
scale-read p rows unit place is small there analog =
    let n = length p.channels in
    let at = analog-at p rows n place there analog in
    let few = is.draft.counts.channels in
    let below = count_below-le (is_analog_at p) place in
    let line : get_or (cfg_lines p rows unit) (2 + analog_before p place) [] ≡ analog_body p (multiplier_at rows place) place =
    ap (λ (j : ℕ). get_or (cfg_lines p rows unit) j []) (two (analog_before p place))
    ∙ get_or_append_left (joined n (analog_lines_at p rows)) (joined n (status_lines_at p) ++ tail_lines (length rows) unit) [] (analog_before p place) (omega (arith, at.0, length-analog p (λ place. analog_body p (multiplier_at rows place) place) n))
    ∙ at.1 in
    let fields : comma_fields (get_or (cfg_lines p rows unit) (2 + analog_before p place) []) ≡ map trimmed (decimal (analog_before p place + 1) ∷ analog_pieces p (multiplier_at rows place) place) =
    ap comma_fields line ∙ fields-pieces (decimal (analog_before p place + 1)) (analog_pieces p (multiplier_at rows place) place) (pieces-analog p (multiplier_at rows place) place is there (small place there analog) (omega arith)) in
    let made : ℤ → ℤ → Scale = λ a b. record { a = a; b = b } in
    ap (λ (fs : List (List ℕ)). made (unwrap_or (scale_number (get_or fs 5 [])) (pos 0)) (unwrap_or (scale_number (get_or fs 6 [])) (pos 0))) fields
    ∙ ap (λ o. made (unwrap_or o (pos 0)) (unwrap_or (scale_number (trimmed (codes "0"))) (pos 0))) (scale_number-fixed (multiplier_at rows place) (small place there analog))
    ∙ ap (λ (b : ℤ). made (pos (multiplier_at rows place * 10 ^ 9)) b) no_shift
  where
    two : (k : ℕ) → 2 + k ≡ suc (suc k)
    two k = omega arith

pub scaled-cfg : (p : Parts) (rows : List (List ℤ)) (unit : ℕ) → IsCase p → AreSmall p rows → sample_time p ≡ pos unit → length rows ≤ 1000001 → 1 ≤ unit → unit ≤ LARGEST_UNIT
    → IsScaledBy p rows (scales_in p (cfg_text p rows))
unfolding scales_in
scaled-cfg p rows unit is small step few some most =
    let lines = audited-cfg p rows unit _ (makes-cfg p rows unit is small step few some most) in
    record {
      unit = ap (unit_in p) lines ∙ unit-read p rows unit some most ∙ sym step;
      scale = λ place there analog.
          joined-at (λ number. scale_on (get_or (audited_lines (cfg_text p rows)) (2 + number) [])) (analog_before p (length p.channels)) (analog_before p place) (record { a = pos 0; b = pos 0 }) (count_below-less (is_analog_at p) place (length p.channels) there (ap not analog))
          ∙ ap (λ (ls : List (List ℕ)). scale_on (get_or ls (2 + analog_before p place) [])) lines ∙ scale-read p rows unit place is small there analog;
    }
