-- The configuration that the program writes has no difference, and says what it was made of.
use Rattle.emtp_case.specs.declared.limit.TheConstants.{MOST_CHANNELS}
use Rattle.std.proofs.Common.{◌≡◌, ◌++◌, ◌∙◌, sym, ap, ℕ, suc, ◌+◌, ◌/◌, ◌%◌, ◌^◌, ◌<◌, ◌≤◌, ℤ, pos, Bool, true, false, cond, not, List, [], ◌∷◌, length, get_or, None, refl, arith, rules, decimal, codes, subst, append_assoc, append-nil}
use Rattle.std.proofs.lemmas.Fmt.{decimal_nonempty}
use Rattle.std.proofs.lemmas.List.{get_or-append-add}
use Rattle.std.specs.List.{list_all}
use Rattle.std.proofs.lemmas.List.Elements.{All-weaker}
use Rattle.std.proofs.lemmas.List.Sums.{AllPass-from_list_all}
use Rattle.std.proofs.Math.Nat.{div-le_self}
use Rattle.emtp_fix.specs.Decimal.{fixed_text, point_fraction}
use Rattle.emtp_card.proofs.Splitting.{lines_of-nil}
use Rattle.emtp_card.specs.Lines.{lines_of, is_newline}
use Rattle.emtp_card.specs.held.Lines.{HasNoNewline}
use Rattle.emtp_card.specs.Numeral.{limited_whole}
use Rattle.emtp_card.specs.Field.{trimmed}
use Rattle.emtp_case.specs.held.Case.{IsCase}
use Rattle.emtp_case.specs.declared.case.Parts.{Parts}
use Rattle.emtp_audit.specs.Numbers.{whole_of}
use Rattle.emtp_audit.specs.held.Pieces.{ended}
use Rattle.emtp_comtrade.specs.Record.{joined, is_status_at, is_analog_at, analog_before, status_before, multiplier_at, analog_line, status_line, analog_line_at, status_line_at, sample_time, cfg_head, cfg_tail, cfg_text, end_of_line}
use Rattle.emtp_audit.specs.Rules.{Rule, LineRule, Anything, Fields, any_field, text_is, number_is, is_padding, audited_lines}
use Rattle.emtp_audit.specs.Cfg.{counts, is_read, unit_number, rates_number, analog_rule, status_rule, analog_rule_at, status_rule_at, head_rules, middle_rules, end_rules, letters_are, cfg_rules}
use Rattle.emtp_audit.proofs.FieldsOfPieces.{with_commas}
use Rattle.emtp_audit.proofs.Plain.{ArePlain, trimmed-plain, plain-both}
use Rattle.emtp_audit.proofs.Whole.{decimal-digits}
use Rattle.emtp_audit.proofs.Decimals.{fixed_text-plus}
use Rattle.emtp_audit.proofs.CfgFields.{text_is-same, counts-decimal, unit_number-fixed, plain-fixed}
use Rattle.emtp_audit.proofs.CfgLines.{piece-plain, plain-decimal, analog_body, analog_line-ended, meets-analog, status_body, status_line-ended, meets-status}
use Rattle.emtp_audit.proofs.Matches.{MeetsLine, meets-pieces, Makes, makes-none, makes-line, makes-both, makes-joined, makes-audited}
use Rattle.emtp_comtrade.proofs.Places.{count_below-le}
use Rattle.emtp_audit.proofs.CfgPlaces.{length-analog, length-status, each-is-one}
use Rattle.emtp_audit.proofs.DatLines.{number_is-decimal, padding-digits}
use Rattle.emtp_audit.specs.declared.limit.TheConstants.{LARGEST_UNIT}

-- ---- the head

abbrev pub numbers_body : Parts → List ℕ
numbers_body p =
    with_commas (decimal (length p.channels)) ((decimal (analog_before p (length p.channels)) ++ codes "A") ∷ (decimal (status_before p (length p.channels)) ++ codes "D") ∷ [])

abbrev pub head_lines : Parts → List (List ℕ)
head_lines p = codes "EMTP,CASE,1999" ∷ numbers_body p ∷ []

pub head-ended : (p : Parts) → cfg_head p ≡ ended (codes "EMTP,CASE,1999") ++ ended (numbers_body p)
unfolding cfg_head
head-ended p = regroup (ended (codes "EMTP,CASE,1999")) (decimal (length p.channels)) (codes ",") (decimal (analog_before p (length p.channels))) (codes "A") (codes ",") (decimal (status_before p (length p.channels))) (codes "D") end_of_line
  where
    regroup : (h n c a l c' s m e : List ℕ) → ((((((h ++ n) ++ c) ++ a) ++ (l ++ c')) ++ s) ++ m) ++ e ≡ h ++ ((n ++ (c ++ ((a ++ l) ++ (c' ++ (s ++ m))))) ++ e)
    regroup h n c a l c' s m e = simp append_assoc refl

pub makes-head : (p : Parts) → length p.channels ≤ MOST_CHANNELS → Makes (cfg_head p) (head_rules p) (head_lines p)
makes-head p few =
    let analog = count_below-le (is_analog_at p) (length p.channels) in
    let status = count_below-le (is_status_at p) (length p.channels) in
    let number = plain-decimal (length p.channels) (omega arith) in
    subst (λ (text : List ℕ). Makes text (head_rules p) (head_lines p)) (sym (head-ended p))
    (makes-both (ended (codes "EMTP,CASE,1999")) (ended (numbers_body p)) (Fields (any_field ∷ any_field ∷ text_is (codes "1999") ∷ []) ∷ []) _ (codes "EMTP,CASE,1999" ∷ []) (numbers_body p ∷ [])
    (makes-line (codes "EMTP,CASE,1999") (Fields (any_field ∷ any_field ∷ text_is (codes "1999") ∷ []))
    (meets-pieces (codes "EMTP") (codes "CASE" ∷ codes "1999" ∷ []) (any_field ∷ any_field ∷ text_is (codes "1999") ∷ [])
    (piece-plain (codes "EMTP") refl, (piece-plain (codes "CASE") refl, (piece-plain (codes "1999") refl, tt)))
    (refl, (refl, (text_is-same (codes "1999") (trimmed-plain (codes "1999") refl), tt))) refl))
    (makes-line (numbers_body p) _
    (meets-pieces (decimal (length p.channels)) ((decimal (analog_before p (length p.channels)) ++ codes "A") ∷ (decimal (status_before p (length p.channels)) ++ codes "D") ∷ [])
    (number_is (pos (length p.channels)) ∷ counts 65 (analog_before p (length p.channels)) ∷ counts 68 (status_before p (length p.channels)) ∷ []) (
      piece-plain (decimal (length p.channels)) number,
      (
        piece-plain (decimal (analog_before p (length p.channels)) ++ codes "A") (plain-both (decimal (analog_before p (length p.channels))) (codes "A") (plain-decimal (analog_before p (length p.channels)) (omega arith)) refl),
        (piece-plain (decimal (status_before p (length p.channels)) ++ codes "D") (plain-both (decimal (status_before p (length p.channels))) (codes "D") (plain-decimal (status_before p (length p.channels)) (omega arith)) refl), tt),
      ),
    )
    (number_is-decimal (length p.channels) (omega arith), (counts-decimal 65 (analog_before p (length p.channels)) (omega arith) refl refl, (counts-decimal 68 (status_before p (length p.channels)) (omega arith) refl refl, tt)))
    (padding-digits (decimal (length p.channels)) _ (decimal-digits (length p.channels) (omega arith)) (decimal_nonempty (length p.channels) (omega arith))))))

-- ---- the channels

abbrev pub analog_lines_at : Parts → List (List ℤ) → ℕ → List (List ℕ)
analog_lines_at p rows place = cond (is_status_at p place) [] (analog_body p (multiplier_at rows place) place ∷ [])

abbrev pub status_lines_at : Parts → ℕ → List (List ℕ)
status_lines_at p place = cond (is_status_at p place) (status_body p place ∷ []) []

-- each multiplier is small
abbrev pub AreSmall : Parts → List (List ℤ) → Type 0
AreSmall p rows = (place : ℕ) → place < length p.channels → is_status_at p place ≡ false → multiplier_at rows place ≤ 10 ^ 15

pub makes-analog : (p : Parts) (rows : List (List ℤ)) (place : ℕ) → IsCase p → AreSmall p rows → place < length p.channels
    → Makes (analog_line_at p rows place) (analog_rule_at p place) (analog_lines_at p rows place)
unfolding analog_line_at
makes-analog p rows place is small there =
    let analog = count_below-le (is_analog_at p) place in
    let few = is.draft.counts.channels in
    elim (is_status_at p place) as (λ t. is_status_at p place ≡ t → Makes (cond t [] (analog_line p (pos (multiplier_at rows place)) place)) (cond t [] (analog_rule p place ∷ [])) (cond t [] (analog_body p (multiplier_at rows place) place ∷ []))) [
      | true ↦ λ e. makes-none
      | false ↦ λ e. subst (λ (text : List ℕ). Makes text (analog_rule p place ∷ []) (analog_body p (multiplier_at rows place) place ∷ [])) (sym (analog_line-ended p (multiplier_at rows place) place))
          (makes-line (analog_body p (multiplier_at rows place) place) (analog_rule p place) (meets-analog p (multiplier_at rows place) place is there (small place there e) (omega arith)))
    ] refl

pub makes-status : (p : Parts) (place : ℕ) → IsCase p → place < length p.channels → Makes (status_line_at p place) (status_rule_at p place) (status_lines_at p place)
unfolding status_line_at
makes-status p place is there =
    let status = count_below-le (is_status_at p) place in
    let few = is.draft.counts.channels in
    elim (is_status_at p place) as (λ t. Makes (cond t (status_line p place) []) (cond t (status_rule p place ∷ []) []) (cond t (status_body p place ∷ []) [])) [
      | true ↦ subst (λ (text : List ℕ). Makes text (status_rule p place ∷ []) (status_body p place ∷ [])) (sym (status_line-ended p place))
          (makes-line (status_body p place) (status_rule p place) (meets-status p place is there (omega arith)))
      | false ↦ makes-none
    ]

-- ---- the end

abbrev pub date : List ℕ
date = codes "01/01/2000,00:00:00.000000"

abbrev pub tail_lines : ℕ → ℕ → List (List ℕ)
tail_lines count unit = codes "60" ∷ codes "0" ∷ (codes "0," ++ decimal count) ∷ date ∷ date ∷ codes "ASCII" ∷ fixed_text (pos unit) 6 ∷ []

pub tail-ended : (p : Parts) (count unit : ℕ) → sample_time p ≡ pos unit
    → cfg_tail p count ≡ ended (codes "60") ++ (ended (codes "0") ++ (ended (codes "0," ++ decimal count) ++ (ended date ++ (ended date ++ (ended (codes "ASCII") ++ ended (fixed_text (pos unit) 6))))))
unfolding cfg_tail
tail-ended p count unit is =
    ap (λ (u : ℤ). ((((((((ended (codes "60") ++ ended (codes "0") ++ codes "0,") ++ decimal count) ++ end_of_line) ++ date) ++ end_of_line) ++ date) ++ end_of_line) ++ codes "ASCII" ++ end_of_line) ++ fixed_text u 6 ++ end_of_line) is
    ∙ regroup (ended (codes "60")) (ended (codes "0")) (codes "0,") (decimal count) end_of_line date (codes "ASCII") (fixed_text (pos unit) 6)
  where
    regroup : (s z o c e d a f : List ℕ) → ((((((((s ++ z ++ o) ++ c) ++ e) ++ d) ++ e) ++ d) ++ e) ++ a ++ e) ++ f ++ e ≡ s ++ (z ++ (((o ++ c) ++ e) ++ ((d ++ e) ++ ((d ++ e) ++ ((a ++ e) ++ (f ++ e))))))
    regroup s z o c e d a f = simp append_assoc refl

no-newline : (xs : List ℕ) → list_all (λ b. not (is_newline b)) xs ≡ true → HasNoNewline xs
no-newline xs h = All-weaker (λ b. not (is_newline b) ≡ true) (λ b. is_newline b ≡ false) (λ b k. is_not (is_newline b) k) xs (AllPass-from_list_all (λ b. not (is_newline b)) xs h)
  where
    is_not : (t : Bool) → not t ≡ true → t ≡ false
    is_not true e = sym e
    is_not false e = refl

one-line : (text : List ℕ) → HasNoNewline text → is_padding text ≡ false → MeetsLine text Anything
one-line text one solid = record { meets = tt; one_line = one; solid = solid }

one-field : (text : List ℕ) (rule : Rule) → ArePlain text → rule (trimmed text) ≡ None → is_padding text ≡ false → MeetsLine text (Fields (rule ∷ []))
one-field text rule plain pass solid = meets-pieces text [] (rule ∷ []) (piece-plain text plain, tt) (pass, tt) solid

no_rates : is_read (rates_number (trimmed (codes "0"))) ≡ None
unfolding trimmed whole_of limited_whole
no_rates = refl

ascii : letters_are (codes "ASCII") (trimmed (codes "ASCII")) ≡ None
unfolding trimmed
ascii = refl

solid-fixed : (unit : ℕ) → unit ≤ LARGEST_UNIT → is_padding (fixed_text (pos unit) 6) ≡ false
solid-fixed unit few =
    let q_small : unit / 10 ^ 6 < 2 ^ 64 = omega (arith, div-le_self unit (10 ^ 6)) in
    ap is_padding (fixed_text-plus unit 6) ∙ padding-digits (decimal (unit / 10 ^ 6)) (point_fraction 6 (unit % 10 ^ 6)) (decimal-digits (unit / 10 ^ 6) q_small) (decimal_nonempty (unit / 10 ^ 6) q_small)

makes-tail : (p : Parts) (count unit : ℕ) → sample_time p ≡ pos unit → count ≤ 1000001 → 1 ≤ unit → unit ≤ LARGEST_UNIT
    → Makes (cfg_tail p count) (middle_rules count 0 ++ end_rules) (tail_lines count unit)
makes-tail p count unit is few some small =
    subst (λ (text : List ℕ). Makes text (middle_rules count 0 ++ end_rules) (tail_lines count unit)) (sym (tail-ended p count unit is))
    (makes-both (ended (codes "60")) _ (Anything ∷ []) _ (codes "60" ∷ []) _ (makes-line (codes "60") Anything (one-line (codes "60") (no-newline (codes "60") refl) refl))
    (makes-both (ended (codes "0")) _ (Fields ((λ field. is_read (rates_number field)) ∷ []) ∷ []) _ (codes "0" ∷ []) _ (makes-line (codes "0") _ (one-field (codes "0") (λ field. is_read (rates_number field)) refl no_rates refl))
    (makes-both (ended (codes "0," ++ decimal count)) _ (Fields (any_field ∷ number_is (pos count) ∷ []) ∷ []) _ ((codes "0," ++ decimal count) ∷ []) _
    (makes-line (codes "0," ++ decimal count) _
    (meets-pieces (codes "0") (decimal count ∷ []) (any_field ∷ number_is (pos count) ∷ [])
    (piece-plain (codes "0") refl, (piece-plain (decimal count) (plain-decimal count (omega arith)), tt))
    (refl, (number_is-decimal count (omega arith), tt)) refl))
    (makes-both (ended date) _ (Anything ∷ []) _ (date ∷ []) _ (makes-line date Anything (one-line date (no-newline date refl) refl))
    (makes-both (ended date) _ (Anything ∷ []) _ (date ∷ []) _ (makes-line date Anything (one-line date (no-newline date refl) refl))
    (makes-both (ended (codes "ASCII")) _ (Fields (letters_are (codes "ASCII") ∷ []) ∷ []) _ (codes "ASCII" ∷ []) _ (makes-line (codes "ASCII") _ (one-field (codes "ASCII") (letters_are (codes "ASCII")) refl ascii refl))
    (makes-line (fixed_text (pos unit) 6) (Fields ((λ field. is_read (unit_number field)) ∷ []))
    (one-field (fixed_text (pos unit) 6) (λ field. is_read (unit_number field)) (plain-fixed unit 6 (omega arith)) (ap is_read (unit_number-fixed unit some small)) (solid-fixed unit small)))))))))

-- ---- the file

abbrev pub cfg_lines : Parts → List (List ℤ) → ℕ → List (List ℕ)
cfg_lines p rows unit =
    head_lines p ++ (joined (length p.channels) (analog_lines_at p rows) ++ (joined (length p.channels) (status_lines_at p) ++ tail_lines (length rows) unit))

pub makes-cfg : (p : Parts) (rows : List (List ℤ)) (unit : ℕ) → IsCase p → AreSmall p rows → sample_time p ≡ pos unit → length rows ≤ 1000001 → 1 ≤ unit → unit ≤ LARGEST_UNIT
    → Makes (cfg_text p rows) (cfg_rules p (length rows) 0) (cfg_lines p rows unit)
unfolding cfg_text
makes-cfg p rows unit is small step few some most =
    subst (λ (text : List ℕ). Makes text (cfg_rules p (length rows) 0) (cfg_lines p rows unit))
    (sym (append_assoc (cfg_head p ++ joined (length p.channels) (analog_line_at p rows)) (joined (length p.channels) (status_line_at p)) (cfg_tail p (length rows))
    ∙ append_assoc (cfg_head p) (joined (length p.channels) (analog_line_at p rows)) (joined (length p.channels) (status_line_at p) ++ cfg_tail p (length rows))))
    (makes-both (cfg_head p) _ (head_rules p) _ (head_lines p) _ (makes-head p is.draft.counts.channels)
    (makes-both (joined (length p.channels) (analog_line_at p rows)) _ (joined (length p.channels) (analog_rule_at p)) _ (joined (length p.channels) (analog_lines_at p rows)) _
    (makes-joined (length p.channels) (analog_line_at p rows) (analog_rule_at p) (analog_lines_at p rows) (λ place there. makes-analog p rows place is small there))
    (makes-both (joined (length p.channels) (status_line_at p)) _ (joined (length p.channels) (status_rule_at p)) _ (joined (length p.channels) (status_lines_at p)) _
    (makes-joined (length p.channels) (status_line_at p) (status_rule_at p) (status_lines_at p) (λ place there. makes-status p place is there))
    (makes-tail p (length rows) unit step few some most))))

pub audited-cfg : (p : Parts) (rows : List (List ℤ)) (unit : ℕ) (rules : List LineRule) → Makes (cfg_text p rows) rules (cfg_lines p rows unit)
    → audited_lines (cfg_text p rows) ≡ cfg_lines p rows unit
audited-cfg p rows unit rules makes =
    ap audited_lines (sym (append-nil (cfg_text p rows))) ∙ makes-audited (cfg_text p rows) [] rules (cfg_lines p rows unit) makes nothing
  where
    nothing : list_all is_padding (lines_of []) ≡ true
    nothing = ap (list_all is_padding) lines_of-nil

-- ---- what is read

-- a line behind those of the channels
pub tail-at : (p : Parts) (rows : List (List ℤ)) (unit k : ℕ) → get_or (cfg_lines p rows unit) (length p.channels + 2 + k) [] ≡ get_or (tail_lines (length rows) unit) k []
tail-at p rows unit k =
    let n = length p.channels in
    let analog = joined n (analog_lines_at p rows) in
    let status = joined n (status_lines_at p) in
    let tail = tail_lines (length rows) unit in
    ap (λ (j : ℕ). get_or (cfg_lines p rows unit) j []) (place n k refl)
    ∙ get_or-append-add analog (status ++ tail) (length status + k) []
    ∙ get_or-append-add status tail k []
  where
    place : (n k : ℕ) → length p.channels ≡ n → length p.channels + 2 + k ≡ suc (suc (length (joined n (analog_lines_at p rows)) + (length (joined n (status_lines_at p)) + k)))
    place n k e = omega (arith, length-analog p (λ place. analog_body p (multiplier_at rows place) place) n, length-status p (status_body p) n, each-is-one p n)
