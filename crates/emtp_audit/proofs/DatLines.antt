-- A line of the data that the program writes meets its rule.
use Rattle.std.proofs.Common.{◌≡◌, ◌++◌, ◌∙◌, ap, ℕ, ◌+◌, ◌*◌, ◌^◌, ◌<◌, ◌≤◌, ◌==◌, ℤ, pos, unsigned_abs, ◌+ℤ◌, ◌-ℤ◌, ◌*ℤ◌, nat_le, Bool, true, false, cond, List, [], ◌∷◌, length, Some, None, refl, arith, decimal, codes, subst, append_assoc}
use Rattle.std.specs.Prelude.{◌||◌, ◌&&◌}
use Rattle.std.specs.Char.{is_ascii_digit}
use Rattle.std.specs.List.{list_all}
use Rattle.std.proofs.lemmas.Fmt.{decimal_nonempty}
use Rattle.std.specs.Fmt.{signed_decimal}
use Rattle.std.specs.Ordering.{int_eq}
use Rattle.std.specs.Str.{bytes_eq}
use Rattle.std.proofs.lemmas.Int.{ints}
use Rattle.std.proofs.lemmas.Bool.Decides.{nat_tests}
use Rattle.emtp_fix.specs.Rounding.{near}
use Rattle.emtp_card.specs.Field.{trimmed}
use Rattle.emtp_case.specs.declared.case.Parts.{Parts}
use Rattle.emtp_audit.specs.declared.scale.Scale.{Scale}
use Rattle.emtp_audit.specs.declared.differs.DifferCause.TheVariants.{NotNumber}
use Rattle.emtp_audit.specs.held.Pieces.{ended}
use Rattle.emtp_comtrade.specs.Record.{joined, is_status_at, analog_before, multiplier_at, sample_time, raw_at, state_at, dat_line, end_of_line}
use Rattle.emtp_comtrade.specs.held.Multiplier.{IsHeld}
use Rattle.emtp_machine.specs.Samples.{value_at}
use Rattle.emtp_audit.specs.Rules.{judged_number, unless_wrong, number_is, is_padding}
use Rattle.emtp_audit.specs.Dat.{Scales, stands_for, raw_is, is_time, stamp_is, state_text, state_is, raw_rule_at, state_rule_at, dat_rule}
use Rattle.emtp_audit.proofs.Plain.{ArePlain, trimmed-plain, plain-signed, plain-digits, plain-no_comma, plain-one_line}
use Rattle.emtp_audit.proofs.Whole.{whole-decimal, whole-signed, stamp-decimal, decimal-digits, AreAllDigits}
use Rattle.emtp_audit.proofs.Matches.{Adds, adds-none, adds-piece, adds-both, adds-joined, MeetsLine, meets-fields}
use Rattle.emtp_audit.proofs.Tests.{same_int}

-- ---- numbers

pub number_is-decimal : (n : ℕ) → n < 10 ^ 9 → number_is (pos n) (trimmed (decimal n)) ≡ None
number_is-decimal n few =
    ap (number_is (pos n)) (trimmed-plain (decimal n) (plain-digits (decimal n) (decimal-digits n (omega arith))))
    ∙ ap (λ o. judged_number o (λ x. int_eq x (pos n))) (whole-decimal n few)
    ∙ ap unless_wrong (same_int (pos n))

-- ---- raw values

-- the scale of a channel that the program writes with this multiplier, in 1e-9
abbrev pub scale_by : ℕ → Scale
scale_by multiplier = record { a = pos (multiplier * 10 ^ 9); b = pos 0 }

-- a raw value is at most half a multiplier off
close_enough : (value raw : ℤ) (multiplier : ℕ) → 2 * unsigned_abs (value -ℤ raw *ℤ pos multiplier) ≤ multiplier → stands_for (scale_by multiplier) value raw ≡ true
close_enough value raw multiplier close =
    ap (λ (z : ℤ). nat_le (unsigned_abs ((z +ℤ pos 0) -ℤ value *ℤ pos (10 ^ 9))) (multiplier * 10 ^ 9)) (turned multiplier raw)
    ∙ below _ _ (apart (raw *ℤ pos multiplier) value multiplier close)
  where
    turned : (m : ℕ) (raw : ℤ) → pos (m * 10 ^ 9) *ℤ raw ≡ (raw *ℤ pos m) *ℤ pos (10 ^ 9)
    turned m raw = omega (arith, ints)

    apart : (z v : ℤ) (m : ℕ) → 2 * unsigned_abs (v -ℤ z) ≤ m → unsigned_abs ((z *ℤ pos (10 ^ 9) +ℤ pos 0) -ℤ v *ℤ pos (10 ^ 9)) ≤ m * 10 ^ 9
    apart z v m h = omega (arith, ints)

    below : (m n : ℕ) → m ≤ n → nat_le m n ≡ true
    below m n h = grind (arith, nat_tests)

pub raw_is-near : (value : ℤ) (multiplier : ℕ) → IsHeld value multiplier
    → raw_is (scale_by multiplier) value (trimmed (signed_decimal (near value (pos multiplier)))) ≡ None
raw_is-near value multiplier held =
    let raw = near value (pos multiplier) in
    ap (raw_is (scale_by multiplier) value) (trimmed-plain (signed_decimal raw) (plain-signed raw (omega (arith, held.within))))
    ∙ ap (λ o. judged_number o (stands_for (scale_by multiplier) value)) (whole-signed raw (omega (arith, held.within)))
    ∙ ap unless_wrong (close_enough value raw multiplier held.close)

-- ---- stamps

on_time : (k : ℕ) (step : ℤ) → is_time step step (pos 0) k (pos k) ≡ true
on_time k step =
    ap (λ (s : ℤ). nat_le (unsigned_abs (s *ℤ step -ℤ pos k *ℤ step)) (unsigned_abs step)) (from_none (pos k))
    ∙ none_off (pos k *ℤ step) (unsigned_abs step)
  where
    from_none : (z : ℤ) → z -ℤ pos 0 ≡ z
    from_none z = omega (arith, ints)

    least : (m : ℕ) → nat_le 0 m ≡ true
    least m = grind (arith, nat_tests)

    none_off : (x : ℤ) (m : ℕ) → nat_le (unsigned_abs (x -ℤ x)) m ≡ true
    none_off x m =
        let none : unsigned_abs (x -ℤ x) ≡ 0 = omega (arith, ints) in
        ap (λ (n : ℕ). nat_le n m) none ∙ least m

pub stamp_is-decimal : (k : ℕ) (step : ℤ) → k < 10 ^ 10 → stamp_is step step (pos 0) k (trimmed (decimal k)) ≡ None
stamp_is-decimal k step few =
    ap (stamp_is step step (pos 0) k) (trimmed-plain (decimal k) (plain-digits (decimal k) (decimal-digits k (omega arith))))
    ∙ ap (λ o. judged_number o (is_time step step (pos 0) k)) (stamp-decimal k few)
    ∙ ap unless_wrong (on_time k step)

-- ---- states

pub state_is-text : (value : ℤ) → state_is value (trimmed (state_text value)) ≡ None
state_is-text value = ap (state_is value) (trimmed-plain (state_text value) (plain (unsigned_abs value == 0))) ∙ by_state (unsigned_abs value == 0)
  where
    plain : (t : Bool) → ArePlain (cond t (codes "0") (codes "1"))
    plain true = refl
    plain false = refl

    by_state : (t : Bool) → cond (bytes_eq (cond t (codes "0") (codes "1")) (codes "0") || bytes_eq (cond t (codes "0") (codes "1")) (codes "1")) (unless_wrong (bytes_eq (cond t (codes "0") (codes "1")) (cond t (codes "0") (codes "1")))) (Some NotNumber) ≡ None
    by_state true = refl
    by_state false = refl

-- ---- the line

pub adds-raw : (p : Parts) (rows : List (List ℤ)) (scales : Scales) (sample place : ℕ)
    → (is_status_at p place ≡ false → scales.scale (analog_before p place) ≡ scale_by (multiplier_at rows place))
    → (is_status_at p place ≡ false → IsHeld (value_at rows sample place) (multiplier_at rows place))
    → Adds (raw_at p rows sample place) (raw_rule_at p rows scales sample place)
unfolding raw_at
adds-raw p rows scales sample place scale held =
    let raw = near (value_at rows sample place) (pos (multiplier_at rows place)) in
    elim (is_status_at p place) as (λ t. is_status_at p place ≡ t
    → Adds (cond t [] (codes "," ++ signed_decimal raw)) (cond t [] (raw_is (scales.scale (analog_before p place)) (value_at rows sample place) ∷ []))) [
      | true ↦ λ e. adds-none
      | false ↦ λ e.
          let plain = plain-signed raw (omega (arith, (held e).within)) in
          adds-piece (signed_decimal raw) (raw_is (scales.scale (analog_before p place)) (value_at rows sample place)) (plain-no_comma (signed_decimal raw) plain) (plain-one_line (signed_decimal raw) plain)
          (ap (λ (s : Scale). raw_is s (value_at rows sample place) (trimmed (signed_decimal raw))) (scale e)
          ∙ raw_is-near (value_at rows sample place) (multiplier_at rows place) (held e))
    ] refl

pub adds-state : (p : Parts) (rows : List (List ℤ)) (sample place : ℕ) → Adds (state_at p rows sample place) (state_rule_at p rows sample place)
unfolding state_at
adds-state p rows sample place =
    elim (is_status_at p place) as (λ t. Adds (cond t (cond (unsigned_abs (value_at rows sample place) == 0) (codes ",0") (codes ",1")) []) (cond t (state_is (value_at rows sample place) ∷ []) [])) [
      | true ↦ subst (λ (text : List ℕ). Adds text (state_is (value_at rows sample place) ∷ [])) (comma (unsigned_abs (value_at rows sample place) == 0))
          (adds-piece (state_text (value_at rows sample place)) (state_is (value_at rows sample place))
          (plain-no_comma (state_text (value_at rows sample place)) (plain (unsigned_abs (value_at rows sample place) == 0)))
          (plain-one_line (state_text (value_at rows sample place)) (plain (unsigned_abs (value_at rows sample place) == 0)))
          (state_is-text (value_at rows sample place)))
      | false ↦ adds-none
    ]
  where
    comma : (t : Bool) → 44 ∷ cond t (codes "0") (codes "1") ≡ cond t (codes ",0") (codes ",1")
    comma true = refl
    comma false = refl

    plain : (t : Bool) → ArePlain (cond t (codes "0") (codes "1"))
    plain true = refl
    plain false = refl

-- what a line of the data has to be, and is: its pieces
abbrev pub dat_tail : Parts → List (List ℤ) → ℕ → List ℕ
dat_tail p rows sample = joined (length p.channels) (raw_at p rows sample) ++ joined (length p.channels) (state_at p rows sample)

abbrev pub dat_body : Parts → List (List ℤ) → ℕ → List ℕ
dat_body p rows sample = decimal (sample + 1) ++ (44 ∷ decimal sample ++ dat_tail p rows sample)

pub dat_line-ended : (p : Parts) (rows : List (List ℤ)) (sample : ℕ) → dat_line p rows sample ≡ ended (dat_body p rows sample)
unfolding dat_line
dat_line-ended p rows sample =
    ap (λ (xs : List ℕ). xs ++ end_of_line) (regroup (decimal (sample + 1)) (codes ",") (decimal sample) (joined (length p.channels) (raw_at p rows sample)) (joined (length p.channels) (state_at p rows sample)))
  where
    regroup : (a b c d e : List ℕ) → (((a ++ b) ++ c) ++ d) ++ e ≡ a ++ ((b ++ c) ++ (d ++ e))
    regroup a b c d e = append_assoc ((a ++ b) ++ c) d e ∙ ap (λ (xs : List ℕ). xs ++ (d ++ e)) (append_assoc a b c) ∙ append_assoc a (b ++ c) (d ++ e)

-- a line that begins with digits says something
pub padding-digits : (xs tail : List ℕ) → AreAllDigits xs → 0 < length xs → is_padding (xs ++ tail) ≡ false
padding-digits [] tail are some = absurd (omega arith)
padding-digits (x ∷ xs) tail are some =
    ap (λ t. t && is_padding (xs ++ tail)) (other x (list_all is_ascii_digit xs) are)
  where
    other : (b : ℕ) (t : Bool) → (is_ascii_digit b && t) ≡ true → ((b == 32) || (b == 26)) ≡ false
    other b t h = grind (arith, nat_tests)

-- what the configuration of the program says
pub record IsScaledBy (p : Parts) (rows : List (List ℤ)) (scales : Scales) : Type 0 where
  pub unit : scales.unit ≡ sample_time p
  pub scale : (place : ℕ) → place < length p.channels → is_status_at p place ≡ false → scales.scale (analog_before p place) ≡ scale_by (multiplier_at rows place)

-- each value is held by its raw value
abbrev pub AreHeld : Parts → List (List ℤ) → Type 0
AreHeld p rows = (sample place : ℕ) → sample < length rows → place < length p.channels → is_status_at p place ≡ false → IsHeld (value_at rows sample place) (multiplier_at rows place)

pub adds-values : (p : Parts) (rows : List (List ℤ)) (scales : Scales) (sample : ℕ) → IsScaledBy p rows scales → AreHeld p rows → sample < length rows
    → Adds (dat_tail p rows sample) (joined (length p.channels) (raw_rule_at p rows scales sample) ++ joined (length p.channels) (state_rule_at p rows sample))
adds-values p rows scales sample scaled held there =
    adds-both (joined (length p.channels) (raw_at p rows sample)) (joined (length p.channels) (state_at p rows sample)) (joined (length p.channels) (raw_rule_at p rows scales sample)) (joined (length p.channels) (state_rule_at p rows sample))
    (adds-joined (length p.channels) (raw_at p rows sample) (raw_rule_at p rows scales sample) (λ place less. adds-raw p rows scales sample place (scaled.scale place less) (held sample place there less)))
    (adds-joined (length p.channels) (state_at p rows sample) (state_rule_at p rows sample) (λ place less. adds-state p rows sample place))

pub meets-dat : (p : Parts) (rows : List (List ℤ)) (scales : Scales) (sample : ℕ) → IsScaledBy p rows scales → AreHeld p rows → length rows ≤ 1000001 → sample < length rows
    → MeetsLine (dat_body p rows sample) (dat_rule p rows scales (pos 0) sample)
meets-dat p rows scales sample scaled held few there =
    let digits = plain-digits (decimal (sample + 1)) (decimal-digits (sample + 1) (omega arith)) in
    let stamp = plain-digits (decimal sample) (decimal-digits sample (omega arith)) in
    let in_time : stamp_is (sample_time p) scales.unit (pos 0) sample (trimmed (decimal sample)) ≡ None =
    ap (λ (u : ℤ). stamp_is (sample_time p) u (pos 0) sample (trimmed (decimal sample))) scaled.unit ∙ stamp_is-decimal sample (sample_time p) (omega arith) in
    meets-fields (decimal (sample + 1)) (44 ∷ decimal sample ++ dat_tail p rows sample) (number_is (pos (sample + 1))) _
    (plain-no_comma (decimal (sample + 1)) digits) (plain-one_line (decimal (sample + 1)) digits) (number_is-decimal (sample + 1) (omega arith))
    (adds-both (44 ∷ decimal sample) (dat_tail p rows sample) (stamp_is (sample_time p) scales.unit (pos 0) sample ∷ []) _
    (adds-piece (decimal sample) (stamp_is (sample_time p) scales.unit (pos 0) sample) (plain-no_comma (decimal sample) stamp) (plain-one_line (decimal sample) stamp) in_time)
    (adds-values p rows scales sample scaled held there))
    (padding-digits (decimal (sample + 1)) _ (decimal-digits (sample + 1) (omega arith)) (decimal_nonempty (sample + 1) (omega arith)))
