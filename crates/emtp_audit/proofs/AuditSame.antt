-- The record that the program writes has no difference.
use Rattle.std.proofs.Common.{get_or, [], ◌∷◌, ◌≡◌, ◌∙◌, ap, ℕ, zero, suc, ◌*◌, ◌^◌, ◌≤◌, ℤ, pos, unsigned_abs, false, List, length, None, refl, arith, inl}
use Rattle.std.specs.Prelude.{◌*ℤ◌}
use Rattle.std.proofs.lemmas.Int.{ints}
use Rattle.std.proofs.Math.Nat.{div-le_self, mul-le-mul_left, mul-le-mul_right}
use Rattle.std.proofs.Math.IntN.{pos-*ℤ-pos}
use Rattle.emtp_case.specs.held.Case.{IsCase}
use Rattle.emtp_case.specs.RunData.{samples_of}
use Rattle.emtp_case.specs.declared.case.Parts.{Parts}
use Rattle.emtp_audit.specs.Audit.{audit_differs}
use Rattle.emtp_machine.specs.Ranges.{AreSamplesInRange}
use Rattle.emtp_audit.specs.Cfg.{cfg_rules, rates_in, scales_in, cfg_differs}
use Rattle.emtp_audit.specs.Dat.{dat_differs}
use Rattle.emtp_comtrade.specs.held.Multiplier.{IsMultiplier}
use Rattle.emtp_comtrade.specs.Record.{multiplier_at, sample_time, cfg_text, dat_text}
use Rattle.emtp_audit.specs.Rules.{differs_or_later, audited_lines, lines_differ}
use Rattle.emtp_machine.specs.Samples.{value_at, greatest}
use Rattle.emtp_comtrade.proofs.LeastMultiplier.{IsMultiplier-multiplier_of}
use Rattle.emtp_comtrade.proofs.HeldValues.{value-greatest, value-held}
use Rattle.std.specs.Prelude.{All}
use Rattle.std.proofs.lemmas.List.Elements.{All-head, All-tail}
use Rattle.emtp_fix.specs.declared.limit.TheConstants.{LARGEST_VALUE}
use Rattle.emtp_audit.proofs.Agreeing.{agree-none}
use Rattle.emtp_audit.proofs.Matches.{Makes}
use Rattle.emtp_audit.proofs.DatLines.{AreHeld}
use Rattle.emtp_audit.proofs.DatFile.{dat-same, short_enough}
use Rattle.emtp_audit.proofs.CfgFile.{AreSmall, cfg_lines, makes-cfg, audited-cfg}
use Rattle.emtp_audit.proofs.CfgSame.{rates-none, scaled-cfg}
use Rattle.emtp_audit.proofs.CfgShort.{cfg_text-short}
use Rattle.emtp_audit.specs.declared.limit.TheConstants.{LARGEST_UNIT}

-- ---- values in range

small-item : (row : List ℤ) → All (λ v. unsigned_abs v ≤ LARGEST_VALUE) row → (place : ℕ) → unsigned_abs (get_or row place (pos 0)) ≤ 2 ^ 63
small-item [] small place = omega arith
small-item (v ∷ row) small zero = omega (arith, All-head (λ v. unsigned_abs v ≤ LARGEST_VALUE) v row small)
small-item (v ∷ row) small (suc place) = small-item row (All-tail (λ v. unsigned_abs v ≤ LARGEST_VALUE) v row small) place

small-value : (rows : List (List ℤ)) → All (All (λ v. unsigned_abs v ≤ LARGEST_VALUE)) rows → (sample place : ℕ) → unsigned_abs (value_at rows sample place) ≤ 2 ^ 63
small-value [] small sample place = omega arith
small-value (row ∷ rows) small zero place = small-item row (All-head (All (λ v. unsigned_abs v ≤ LARGEST_VALUE)) row rows small) place
small-value (row ∷ rows) small (suc sample) place = small-value rows (All-tail (All (λ v. unsigned_abs v ≤ LARGEST_VALUE)) row rows small) sample place

-- ---- the multipliers

greatest-small : (rows : List (List ℤ)) (place n most : ℕ) → ((sample : ℕ) → unsigned_abs (value_at rows sample place) ≤ most) → greatest rows place n ≤ most
greatest-small rows place zero most small = omega arith
greatest-small rows place (suc n) most small = omega (arith, greatest-small rows place n most small, small n)

multiplier-is : (p : Parts) (rows : List (List ℤ)) (place : ℕ) → AreSamplesInRange p rows → IsMultiplier (greatest rows place (length rows)) (multiplier_at rows place)
multiplier-is p rows place samples = IsMultiplier-multiplier_of (greatest rows place (length rows)) (greatest-small rows place (length rows) (2 ^ 63) (λ sample. small-value rows samples.small sample place))

pub are-small : (p : Parts) (rows : List (List ℤ)) → AreSamplesInRange p rows → AreSmall p rows
are-small p rows samples place there analog =
    (multiplier-is p rows place samples).least (10 ^ 15)
    (record { power = 15; factor = 1; one_two_five = inl refl; value = refl })
    (omega (arith, greatest-small rows place (length rows) (2 ^ 63) (λ sample. small-value rows samples.small sample place)))

pub are-held : (p : Parts) (rows : List (List ℤ)) → AreSamplesInRange p rows → AreHeld p rows
are-held p rows samples sample place there place_there analog =
    value-held (greatest rows place (length rows)) (multiplier_at rows place) (value_at rows sample place) (multiplier-is p rows place samples) (value-greatest rows place sample (length rows) there)

-- ---- the time between two samples

-- a number of ps from 1 to the greatest unit
pub record IsUnit (p : Parts) : Type 0 where
  pub unit : ℕ
  pub is : sample_time p ≡ pos unit
  pub some : 1 ≤ unit
  pub most : unit ≤ LARGEST_UNIT

pub unit_of : (p : Parts) → IsCase p → IsUnit p
unit_of p is =
    let run = is.draft.run in
    let d = unsigned_abs p.run.dt in
    let dt : p.run.dt ≡ pos (unsigned_abs p.run.dt) = omega (arith, ints, run.dt.least) in
    let few : d ≤ 10 ^ 12 = omega (arith, ints, run.dt.least, run.dt.most) in
    let some : 1 ≤ d = omega (arith, ints, run.dt.least) in
    record {
      unit = p.run.every * unsigned_abs p.run.dt;
      is = ap (λ (z : ℤ). pos p.run.every *ℤ z) dt ∙ pos-*ℤ-pos p.run.every (unsigned_abs p.run.dt);
      some = at_least p.run.every (unsigned_abs p.run.dt) run.some_every some;
      most = at_most p.run.every (unsigned_abs p.run.dt) run.few_every few;
    }
  where
    at_least : (a b : ℕ) → 1 ≤ a → 1 ≤ b → 1 ≤ a * b
    at_least a b h k = let times : 1 * b ≤ a * b = mul-le-mul_right b h in omega (arith, times)

    at_most : (a b : ℕ) → a ≤ 1000000 → b ≤ 10 ^ 12 → a * b ≤ LARGEST_UNIT
    at_most a b h k = let times : a * b ≤ 1000000 * b = mul-le-mul_right b h in omega (arith, times)

-- ---- the files

pub few-rows : (p : Parts) (rows : List (List ℤ)) → IsCase p → AreSamplesInRange p rows → length rows ≤ 1000001
few-rows p rows is samples = omega (arith, samples.few, div-le_self p.run.steps p.run.every, is.draft.run.few_steps)

pub few-values : (p : Parts) (rows : List (List ℤ)) → IsCase p → AreSamplesInRange p rows → length p.channels * length rows ≤ 4000000
few-values p rows is samples =
    let times : length p.channels * length rows ≤ length p.channels * samples_of p.run = mul-le-mul_left (length p.channels) samples.few in
    omega (arith, times, is.draft.counts.stored)

lines-same : (p : Parts) (rows : List (List ℤ)) (unit : ℕ) → Makes (cfg_text p rows) (cfg_rules p (length rows) 0) (cfg_lines p rows unit)
    → lines_differ false 1 (cfg_rules p (length rows) (rates_in p (audited_lines (cfg_text p rows)))) (audited_lines (cfg_text p rows)) ≡ None
lines-same p rows unit makes =
    ap (λ (ls : List (List ℕ)). lines_differ false 1 (cfg_rules p (length rows) (rates_in p ls)) ls) (audited-cfg p rows unit (cfg_rules p (length rows) 0) makes)
    ∙ ap (λ (r : ℕ). lines_differ false 1 (cfg_rules p (length rows) r) (cfg_lines p rows unit)) (rates-none p rows unit)
    ∙ agree-none false 1 (cfg_rules p (length rows) 0) (cfg_lines p rows unit) makes.agree

cfg-same : (p : Parts) (rows : List (List ℤ)) → IsCase p → AreSamplesInRange p rows → cfg_differs p (length rows) (cfg_text p rows) ≡ None
unfolding cfg_differs
cfg-same p rows is samples =
    let u = unit_of p is in
    let makes = makes-cfg p rows u.unit is (are-small p rows samples) u.is (few-rows p rows is samples) u.some u.most in
    short_enough false (cfg_rules p (length rows) (rates_in p (audited_lines (cfg_text p rows)))) (cfg_text p rows) (cfg_text-short p rows u.unit is (are-small p rows samples) u.is (few-rows p rows is samples) u.most)
    ∙ lines-same p rows u.unit makes

pub record-same : (p : Parts) (rows : List (List ℤ)) → IsCase p → AreSamplesInRange p rows → audit_differs p rows (cfg_text p rows) (dat_text p rows) ≡ None
unfolding audit_differs
record-same p rows is samples =
    let u = unit_of p is in
    ap (λ o. differs_or_later o (dat_differs p rows (scales_in p (cfg_text p rows)) (dat_text p rows))) (cfg-same p rows is samples)
    ∙ dat-same p rows (scales_in p (cfg_text p rows)) (scaled-cfg p rows u.unit is (are-small p rows samples) u.is (few-rows p rows is samples) u.some u.most) (are-held p rows samples) (few-rows p rows is samples) (few-values p rows is samples)
