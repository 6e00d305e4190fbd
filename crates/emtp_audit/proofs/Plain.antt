-- Texts without commas and ends of lines, and texts that have no outer blanks.
use Rattle.std.proofs.Common.{◌≡◌, ◌≢◌, ◌++◌, ◌∙◌, sym, ap, ℕ, zero, suc, ◌-◌, ◌<◌, ◌==◌, ℤ, pos, negsuc, unsigned_abs, ◌^◌, Bool, true, false, cond, not, List, [], ◌∷◌, length, get_or, refl, arith, decimal}
use Rattle.std.specs.Prelude.{◌&&◌}
use Rattle.std.specs.Char.{is_ascii_digit}
use Rattle.std.specs.Fmt.{signed_decimal}
use Rattle.std.specs.List.{list_all}
use Rattle.std.proofs.lemmas.Bool.Decides.{nat_tests}
use Rattle.std.proofs.lemmas.List.Folds.{list_all-append}
use Rattle.std.proofs.lemmas.List.Elements.{All-weaker}
use Rattle.std.proofs.lemmas.List.Sums.{AllPass-from_list_all}
use Rattle.emtp_card.specs.Lines.{is_blank, is_newline}
use Rattle.emtp_card.specs.held.Lines.{HasNoNewline}
use Rattle.emtp_card.specs.Name.{is_comma}
use Rattle.emtp_card.specs.Field.{trimmed, without_leading, without_trailing}
use Rattle.emtp_audit.proofs.FieldsOfPieces.{HasNoComma}
use Rattle.emtp_audit.proofs.Whole.{AreAllDigits, decimal-digits}
use Rattle.emtp_audit.proofs.Tests.{and_both, and_first, and_rest}

-- a byte that is no blank, no comma and no LF
abbrev pub is_plain : ℕ → Bool
is_plain byte = not (byte == 32) && (not (byte == 44) && not (byte == 10))

abbrev pub ArePlain : List ℕ → Type 0
ArePlain bytes = list_all is_plain bytes ≡ true

pub plain-both : (xs ys : List ℕ) → ArePlain xs → ArePlain ys → ArePlain (xs ++ ys)
plain-both xs ys first second = list_all-append is_plain xs ys ∙ and_both _ _ first second

pub plain-digits : (xs : List ℕ) → AreAllDigits xs → ArePlain xs
plain-digits [] are = refl
plain-digits (x ∷ xs) are = and_both _ _ (here x (and_first _ _ are)) (plain-digits xs (and_rest (is_ascii_digit x) _ are))
  where
    here : (b : ℕ) → is_ascii_digit b ≡ true → is_plain b ≡ true
    here b h = grind (arith, nat_tests)

pub plain-signed : (z : ℤ) → unsigned_abs z < 2 ^ 64 → ArePlain (signed_decimal z)
plain-signed (pos n) small = plain-digits (decimal n) (decimal-digits n small)
plain-signed (negsuc n) small = plain-digits (decimal (suc n)) (decimal-digits (suc n) small)

pub plain-no_comma : (xs : List ℕ) → ArePlain xs → HasNoComma xs
plain-no_comma xs are = All-weaker (λ b. is_plain b ≡ true) (λ b. is_comma b ≡ false) here xs (AllPass-from_list_all is_plain xs are)
  where
    here : (b : ℕ) → is_plain b ≡ true → is_comma b ≡ false
    here b h = grind (arith, nat_tests)

pub plain-one_line : (xs : List ℕ) → ArePlain xs → HasNoNewline xs
plain-one_line xs are = All-weaker (λ b. is_plain b ≡ true) (λ b. is_newline b ≡ false) here xs (AllPass-from_list_all is_plain xs are)
  where
    here : (b : ℕ) → is_plain b ≡ true → is_newline b ≡ false
    here b h = grind (arith, nat_tests)

-- ---- blanks

-- neither the first nor the last byte is a blank
pub record HasSolidEnds (xs : List ℕ) : Type 0 where
  pub first : get_or xs 0 32 ≢ 32
  pub last : get_or xs (length xs - 1) 32 ≢ 32

not_all_blank : (xs : List ℕ) (k : ℕ) → get_or xs k 32 ≢ 32 → list_all is_blank xs ≡ false
not_all_blank [] k other = absurd (other refl)
not_all_blank (x ∷ xs) zero other = ap (λ t. t && list_all is_blank xs) (no_blank x other)
  where
    no_blank : (b : ℕ) → b ≢ 32 → is_blank b ≡ false
    no_blank b h = grind (arith, nat_tests)
not_all_blank (x ∷ xs) (suc k) other = ap (λ t. is_blank x && t) (not_all_blank xs k other) ∙ and_false (is_blank x)
  where
    and_false : (t : Bool) → (t && false) ≡ false
    and_false true = refl
    and_false false = refl

trailing-same : (xs : List ℕ) → get_or xs (length xs - 1) 32 ≢ 32 → without_trailing xs ≡ xs
trailing-same [] other = refl
trailing-same (x ∷ []) other = ap (λ t. cond t [] (x ∷ [])) (not_all_blank (x ∷ []) 0 other)
trailing-same (x ∷ y ∷ xs) other =
    ap (λ t. cond t [] (x ∷ without_trailing (y ∷ xs))) (not_all_blank (x ∷ y ∷ xs) (length (x ∷ y ∷ xs) - 1) other)
    ∙ ap (λ (zs : List ℕ). x ∷ zs) (trailing-same (y ∷ xs) (next x y xs (length (x ∷ y ∷ xs) - 1) (length (y ∷ xs) - 1) (omega arith) other))
  where
    next : (x y : ℕ) (xs : List ℕ) (j k : ℕ) → j ≡ suc k → get_or (x ∷ y ∷ xs) j 32 ≢ 32 → get_or (y ∷ xs) k 32 ≢ 32
    next x y xs j k e h = rw e at h

leading-same : (xs : List ℕ) → get_or xs 0 32 ≢ 32 → without_leading xs ≡ xs
leading-same [] other = refl
leading-same (x ∷ xs) other = ap (λ t. cond t (without_leading xs) (x ∷ xs)) (no_blank x other)
  where
    no_blank : (b : ℕ) → b ≢ 32 → is_blank b ≡ false
    no_blank b h = grind (arith, nat_tests)

pub trimmed-same : (xs : List ℕ) → HasSolidEnds xs → trimmed xs ≡ xs
unfolding trimmed
trimmed-same xs ends = ap without_leading (trailing-same xs ends.last) ∙ leading-same xs ends.first

plain_at : (xs : List ℕ) (k : ℕ) → ArePlain xs → k < length xs → get_or xs k 32 ≢ 32
plain_at [] k are less = absurd (omega arith)
plain_at (x ∷ xs) zero are less = here x (and_first _ _ are)
  where
    here : (b : ℕ) → is_plain b ≡ true → b ≢ 32
    here b h e = absurd (false_true (sym (ap is_plain e) ∙ h))
      where
        false_true : false ≡ true → ⊥
        false_true e = absurd (cc)
plain_at (x ∷ xs) (suc k) are less = plain_at xs k (and_rest (is_plain x) _ are) (omega arith)

pub plain-ends : (xs : List ℕ) → ArePlain xs → 0 < length xs → HasSolidEnds xs
plain-ends xs are some = record { first = plain_at xs 0 are some; last = plain_at xs (length xs - 1) are (omega arith) }

pub trimmed-nil : trimmed [] ≡ []
unfolding trimmed
trimmed-nil = refl

pub trimmed-plain : (xs : List ℕ) → ArePlain xs → trimmed xs ≡ xs
trimmed-plain [] are = trimmed-nil
trimmed-plain (x ∷ xs) are = trimmed-same (x ∷ xs) (plain-ends (x ∷ xs) are (omega arith))
