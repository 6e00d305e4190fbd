-- The data that the program writes have no difference.
use Rattle.std.proofs.Common.{◌≡◌, ◌++◌, ◌∙◌, sym, ap, ℕ, zero, suc, ◌+◌, ◌*◌, ◌<◌, ◌≤◌, ◌==◌, ℤ, pos, negsuc, unsigned_abs, Bool, true, false, cond, List, [], ◌∷◌, length, get_or, None, unwrap_or, refl, arith, rules, decimal, codes, subst, append_assoc, length-append, append-nil}
use Rattle.std.specs.Prelude.{◌&&◌}
use Rattle.std.specs.List.{list_all}
use Rattle.std.specs.Fmt.{signed_decimal}
use Rattle.std.proofs.lemmas.Fmt.{length-decimal-le, length_signed_le}
use Rattle.emtp_fix.specs.Rounding.{near}
use Rattle.emtp_card.specs.Lines.{lines_of}
use Rattle.emtp_card.specs.Field.{trimmed}
use Rattle.emtp_case.specs.declared.case.Parts.{Parts}
use Rattle.emtp_audit.specs.declared.differs.DifferCause.TheVariants.{Long}
use Rattle.emtp_audit.specs.Numbers.{stamp_of}
use Rattle.emtp_audit.specs.held.Pieces.{ended}
use Rattle.emtp_comtrade.specs.Record.{joined, is_status_at, multiplier_at, raw_at, state_at, dat_line, dat_text}
use Rattle.emtp_comtrade.specs.held.Multiplier.{IsHeld}
use Rattle.emtp_machine.specs.Samples.{value_at}
use Rattle.emtp_audit.specs.Rules.{LineRule, file_differs, differs_at, lines_differ, is_padding, without_padding, audited_lines, comma_fields}
use Rattle.emtp_audit.specs.Dat.{Scales, dat_rule, dat_rules, first_stamp, dat_differs}
use Rattle.emtp_audit.proofs.FieldsOfPieces.{fields-line, fields-piece, fields-both}
use Rattle.emtp_audit.proofs.LinesOfPieces.{lines-piece}
use Rattle.emtp_audit.proofs.Plain.{plain-digits, plain-no_comma, trimmed-plain}
use Rattle.emtp_audit.proofs.Whole.{decimal-digits, stamp-decimal}
use Rattle.emtp_audit.proofs.Matches.{Makes, makes-line, makes-joined, makes-none_differ}
use Rattle.emtp_audit.proofs.Tests.{not_less}
use Rattle.emtp_audit.proofs.DatLines.{dat_tail, dat_body, dat_line-ended, meets-dat, IsScaledBy, AreHeld, adds-values}
use Rattle.emtp_audit.specs.declared.limit.TheConstants.{MOST_BYTES}

-- ---- the lines

pub makes-dat : (p : Parts) (rows : List (List ℤ)) (scales : Scales) → IsScaledBy p rows scales → AreHeld p rows → length rows ≤ 1000001
    → Makes (joined (length rows) (dat_line p rows)) (dat_rules p rows scales (pos 0)) (joined (length rows) (λ sample. dat_body p rows sample ∷ []))
makes-dat p rows scales scaled held few =
    makes-joined (length rows) (dat_line p rows) (λ sample. dat_rule p rows scales (pos 0) sample ∷ []) (λ sample. dat_body p rows sample ∷ [])
    (λ sample there. subst (λ (text : List ℕ). Makes text (dat_rule p rows scales (pos 0) sample ∷ []) (dat_body p rows sample ∷ [])) (sym (dat_line-ended p rows sample))
    (makes-line (dat_body p rows sample) (dat_rule p rows scales (pos 0) sample) (meets-dat p rows scales sample scaled held few there)))

-- ---- the first stamp

joined-first : (n : ℕ) (at : ℕ → List ℕ) → joined (suc n) at ≡ at 0 ++ joined n (λ k. at (suc k))
joined-first zero at = sym (append-nil (at 0))
joined-first (suc n) at = ap (λ (xs : List ℕ). xs ++ at (suc n)) (joined-first n at) ∙ append_assoc (at 0) (joined n (λ k. at (suc k))) (at (suc n))

no_stamp : first_stamp (26 ∷ []) ≡ pos 0
unfolding first_stamp audited_lines lines_of comma_fields trimmed stamp_of
no_stamp = refl

stamp_in : List ℕ → ℤ
stamp_in line = unwrap_or (stamp_of (get_or (comma_fields line) 1 [])) (pos 0)

stamp_of-body : (p : Parts) (rows : List (List ℤ)) (scales : Scales) → IsScaledBy p rows scales → AreHeld p rows → 0 < length rows → stamp_in (dat_body p rows 0) ≡ pos 0
unfolding stamp_in
stamp_of-body p rows scales scaled held some =
    let values = adds-values p rows scales 0 scaled held some in
    let none = plain-no_comma (decimal 0) (plain-digits (decimal 0) (decimal-digits 0 (omega arith))) in
    let one = plain-no_comma (decimal 1) (plain-digits (decimal 1) (decimal-digits 1 (omega arith))) in
    ap (λ (fs : List (List ℕ)). unwrap_or (stamp_of (get_or fs 1 [])) (pos 0))
    (fields-line (decimal 1) (44 ∷ decimal 0 ++ dat_tail p rows 0) (decimal 0 ∷ values.fields) one
    (fields-both (44 ∷ decimal 0) (dat_tail p rows 0) (decimal 0 ∷ []) values.fields (fields-piece (decimal 0) none) values.adds))
    ∙ ap (λ (text : List ℕ). unwrap_or (stamp_of text) (pos 0)) (trimmed-plain (decimal 0) (plain-digits (decimal 0) (decimal-digits 0 (omega arith))))
    ∙ ap (λ o. unwrap_or o (pos 0)) (stamp-decimal 0 (omega arith))

first_line : (line rest : List ℕ) → is_padding line ≡ false → lines_of (ended line ++ rest) ≡ line ∷ lines_of rest → first_stamp (ended line ++ rest) ≡ stamp_in line
unfolding first_stamp audited_lines stamp_in
first_line line rest solid lines =
    ap (λ (ls : List (List ℕ)). unwrap_or (stamp_of (get_or (comma_fields (get_or (without_padding ls) 0 [])) 1 [])) (pos 0)) lines
    ∙ ap (λ t. unwrap_or (stamp_of (get_or (comma_fields (get_or (cond (t && list_all is_padding (lines_of rest)) [] (line ∷ without_padding (lines_of rest))) 0 [])) 1 [])) (pos 0)) solid

pub first_stamp-dat : (p : Parts) (rows : List (List ℤ)) (scales : Scales) → IsScaledBy p rows scales → AreHeld p rows → length rows ≤ 1000001
    → first_stamp (dat_text p rows) ≡ pos 0
unfolding dat_text
first_stamp-dat p rows scales scaled held few = by_count (length rows) refl
  where
    by_count : (n : ℕ) → length rows ≡ n → first_stamp (joined n (dat_line p rows) ++ 26 ∷ []) ≡ pos 0
    by_count zero is = no_stamp
    by_count (suc n) is =
        let meets = meets-dat p rows scales 0 scaled held few (omega (arith, is)) in
        ap first_stamp (ap (λ (xs : List ℕ). xs ++ 26 ∷ []) (joined-first n (dat_line p rows) ∙ ap (λ (xs : List ℕ). xs ++ joined n (λ k. dat_line p rows (suc k))) (dat_line-ended p rows 0)) ∙ append_assoc (ended (dat_body p rows 0)) (joined n (λ k. dat_line p rows (suc k))) (26 ∷ []))
        ∙ first_line (dat_body p rows 0) (joined n (λ k. dat_line p rows (suc k)) ++ 26 ∷ []) meets.solid (lines-piece (dat_body p rows 0) meets.one_line (joined n (λ k. dat_line p rows (suc k)) ++ 26 ∷ []))
        ∙ stamp_of-body p rows scales scaled held (omega (arith, is))

-- ---- the length

pub length-joined-le : (n most : ℕ) (at : ℕ → List ℕ) → ((k : ℕ) → k < n → length (at k) ≤ most) → length (joined n at) ≤ n * most
length-joined-le zero most at each = omega arith
length-joined-le (suc n) most at each =
    omega (arith, length-append (joined n at) (at n), length-joined-le n most at (λ k less. each k (omega arith)), each n (omega arith))

raw_at-short : (p : Parts) (rows : List (List ℤ)) (sample place : ℕ) → (is_status_at p place ≡ false → IsHeld (value_at rows sample place) (multiplier_at rows place))
    → length (raw_at p rows sample place) ≤ 7
unfolding raw_at
raw_at-short p rows sample place held =
    let raw = near (value_at rows sample place) (pos (multiplier_at rows place)) in
    elim (is_status_at p place) as (λ t. is_status_at p place ≡ t → length (cond t [] (codes "," ++ signed_decimal raw)) ≤ 7) [
      | true ↦ λ e. omega arith
      | false ↦ λ e. seven raw (held e).within
    ] refl
  where
    seven : (raw : ℤ) → unsigned_abs raw ≤ 32767 → length (codes "," ++ signed_decimal raw) ≤ 7
    seven (pos n) within = omega (arith, length_signed_le 5 (pos n) (omega (arith, within)) (omega (arith, within)))
    seven (negsuc n) within = omega (arith, length_signed_le 5 (negsuc n) (omega (arith, within)) (omega (arith, within)))

state_at-short : (p : Parts) (rows : List (List ℤ)) (sample place : ℕ) → length (state_at p rows sample place) ≤ 2
unfolding state_at
state_at-short p rows sample place = by_tests (is_status_at p place) (unsigned_abs (value_at rows sample place) == 0)
  where
    by_tests : (t u : Bool) → length (cond t (cond u (codes ",0") (codes ",1")) []) ≤ 2
    by_tests true true = omega arith
    by_tests true false = omega arith
    by_tests false u = omega arith

dat_line-short : (p : Parts) (rows : List (List ℤ)) (sample : ℕ) → AreHeld p rows → length rows ≤ 1000001 → sample < length rows
    → length (dat_line p rows sample) ≤ 17 + 9 * length p.channels
dat_line-short p rows sample held few there =
    let raws = length-joined-le (length p.channels) 7 (raw_at p rows sample) (λ place less. raw_at-short p rows sample place (held sample place there less)) in
    let states = length-joined-le (length p.channels) 2 (state_at p rows sample) (λ place less. state_at-short p rows sample place) in
    let number = length-decimal-le 7 (sample + 1) (omega arith) (omega arith) (omega arith) in
    let stamp = length-decimal-le 7 sample (omega arith) (omega arith) (omega arith) in
    let whole : length (dat_line p rows sample) ≡ length (decimal (sample + 1)) + (1 + (length (decimal sample) + (length (joined (length p.channels) (raw_at p rows sample)) + length (joined (length p.channels) (state_at p rows sample))))) + 2 =
    ap length (dat_line-ended p rows sample) ∙ parts (decimal (sample + 1)) (decimal sample) (joined (length p.channels) (raw_at p rows sample)) (joined (length p.channels) (state_at p rows sample)) in
    omega (arith, whole, raws, states, number, stamp)
  where
    parts : (a b c d : List ℕ) → length (ended (a ++ (44 ∷ b ++ (c ++ d)))) ≡ length a + (1 + (length b + (length c + length d))) + 2
    parts a b c d = omega (arith, length-append (a ++ (44 ∷ b ++ (c ++ d))) (13 ∷ 10 ∷ []), length-append a (44 ∷ b ++ (c ++ d)), length-append b (c ++ d), length-append c d)

pub dat_text-short : (p : Parts) (rows : List (List ℤ)) → AreHeld p rows → length rows ≤ 1000001 → length p.channels * length rows ≤ 4000000
    → length (dat_text p rows) ≤ MOST_BYTES
unfolding dat_text
dat_text-short p rows held few stored =
    let lines = length-joined-le (length rows) (17 + 9 * length p.channels) (dat_line p rows) (λ sample there. dat_line-short p rows sample held few there) in
    let most : length rows * (17 + 9 * length p.channels) ≤ 17 * 1000001 + 9 * 4000000 = product (length rows) (length p.channels) few stored in
    omega (arith, length-append (joined (length rows) (dat_line p rows)) (26 ∷ []), lines, most)
  where
    product : (n c : ℕ) → n ≤ 1000001 → c * n ≤ 4000000 → n * (17 + 9 * c) ≤ 17 * 1000001 + 9 * 4000000
    product n c few stored = omega arith

-- ---- the file

pub short_enough : (dat : Bool) (rules : List LineRule) (bytes : List ℕ) → length bytes ≤ MOST_BYTES → file_differs dat rules bytes ≡ lines_differ dat 1 rules (audited_lines bytes)
short_enough dat rules bytes short = ap (λ t. cond t (differs_at dat 0 0 Long) (lines_differ dat 1 rules (audited_lines bytes))) (not_less MOST_BYTES (length bytes) short)

mark : list_all is_padding (lines_of (26 ∷ [])) ≡ true
unfolding lines_of
mark = refl

text-same : (p : Parts) (rows : List (List ℤ)) (rules : List LineRule) (lines : List (List ℕ)) → Makes (joined (length rows) (dat_line p rows)) rules lines → lines_differ true 1 rules (audited_lines (dat_text p rows)) ≡ None
unfolding dat_text
text-same p rows rules lines makes = makes-none_differ true (joined (length rows) (dat_line p rows)) (26 ∷ []) rules lines makes mark

pub dat-same : (p : Parts) (rows : List (List ℤ)) (scales : Scales) → IsScaledBy p rows scales → AreHeld p rows → length rows ≤ 1000001 → length p.channels * length rows ≤ 4000000
    → dat_differs p rows scales (dat_text p rows) ≡ None
unfolding dat_differs
dat-same p rows scales scaled held few stored =
    ap (λ (first : ℤ). file_differs true (dat_rules p rows scales first) (dat_text p rows)) (first_stamp-dat p rows scales scaled held few)
    ∙ short_enough true (dat_rules p rows scales (pos 0)) (dat_text p rows) (dat_text-short p rows held few stored)
    ∙ text-same p rows (dat_rules p rows scales (pos 0)) (joined (length rows) (λ sample. dat_body p rows sample ∷ [])) (makes-dat p rows scales scaled held few)
