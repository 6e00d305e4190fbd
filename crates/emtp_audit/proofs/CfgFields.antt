-- The fields of the configuration that the program writes pass their rules.
use Rattle.std.proofs.Common.{◌≡◌, ◌++◌, ◌∙◌, sym, ap, ℕ, ◌+◌, ◌-◌, ◌*◌, ◌/◌, ◌%◌, ◌^◌, ◌<◌, ◌≤◌, ◌==◌, pos, true, false, cond, List, [], ◌∷◌, length, take, get_or, Some, None, Ok, Err, refl, arith, decimal, subst, length-append, inl, inr}
use Rattle.std.specs.Prelude.{◌||◌, ◌&&◌, int_lt}
use Rattle.std.specs.Char.{to_ascii_uppercase}
use Rattle.std.specs.Ordering.{int_eq}
use Rattle.std.specs.Str.{bytes_eq}
use Rattle.std.proofs.lemmas.Fmt.{length-decimal-le}
use Rattle.std.proofs.lemmas.Int.{ints}
use Rattle.std.proofs.lemmas.Bool.Decides.{nat_tests}
use Rattle.std.proofs.lemmas.Bool.{cases_eq}
use Rattle.std.proofs.Math.Nat.{mod-lt, div-le_self}
use Rattle.emtp_fix.specs.Decimal.{fraction, point_fraction, fixed_text}
use Rattle.emtp_fix.proofs.Digits.{fraction-digits, fraction-short, point_fraction-none, point_fraction-some, power-above}
use Rattle.emtp_card.specs.Field.{trimmed}
use Rattle.emtp_card.specs.Number.{read_number_of, number_in, in_limit}
use Rattle.emtp_card.specs.declared.reason.Why.TheVariants.{OutOfUnitRange}
use Rattle.emtp_audit.specs.Numbers.{whole_of, decimal_in, found}
use Rattle.emtp_audit.specs.Rules.{text_is, unless_wrong, judged_number}
use Rattle.emtp_audit.specs.Cfg.{counts, scale_number, unit_number, from_to}
use Rattle.emtp_audit.proofs.Plain.{ArePlain, trimmed-plain, plain-digits, plain-both}
use Rattle.emtp_audit.proofs.Whole.{decimal-digits, whole-decimal}
use Rattle.emtp_audit.proofs.Decimals.{fixed-read, fixed_text-plus}
use Rattle.emtp_audit.proofs.Tests.{same_int, not_less}
use Rattle.emtp_audit.specs.declared.limit.TheConstants.{LARGEST_SCALE, LARGEST_UNIT}

-- ---- texts

bytes-same : (xs : List ℕ) → bytes_eq xs xs ≡ true
bytes-same [] = refl
bytes-same (x ∷ xs) = ap (λ t. t && bytes_eq xs xs) (byte x) ∙ bytes-same xs
  where
    byte : (b : ℕ) → (b == b) ≡ true
    byte b = grind (arith, nat_tests)

pub text_is-same : (text : List ℕ) → trimmed text ≡ text → text_is text (trimmed text) ≡ None
text_is-same text same = ap (text_is text) same ∙ ap unless_wrong (bytes-same text)

-- ---- numbers with a letter

pub counts-decimal : (letter number : ℕ) → number < 10 ^ 9 → ArePlain (letter ∷ []) → to_ascii_uppercase letter ≡ letter → counts letter number (trimmed (decimal number ++ letter ∷ [])) ≡ None
counts-decimal letter number few plain capital =
    ap (counts letter number) (trimmed-plain (decimal number ++ letter ∷ []) (plain-both (decimal number) (letter ∷ []) (plain-digits (decimal number) (decimal-digits number (omega arith))) plain))
    ∙ ap (λ (k : ℕ). judged_number (whole_of (take k (decimal number ++ letter ∷ []))) (λ x. int_eq x (pos number) && (to_ascii_uppercase (get_or (decimal number ++ letter ∷ []) k 0) == letter))) (omega (arith, length-append (decimal number) (letter ∷ [])))
    ∙ ap (λ (front : List ℕ). judged_number (whole_of front) (λ x. int_eq x (pos number) && (to_ascii_uppercase (get_or (decimal number ++ letter ∷ []) (length (decimal number)) 0) == letter))) (front_of (decimal number) letter)
    ∙ ap (λ (b : ℕ). judged_number (whole_of (decimal number)) (λ x. int_eq x (pos number) && (to_ascii_uppercase b == letter))) (last_of (decimal number) letter)
    ∙ ap (λ o. judged_number o (λ x. int_eq x (pos number) && (to_ascii_uppercase letter == letter))) (whole-decimal number few)
    ∙ ap (λ t. unless_wrong (t && (to_ascii_uppercase letter == letter))) (same_int (pos number))
    ∙ ap unless_wrong (is letter capital)
  where
    front_of : (xs : List ℕ) (y : ℕ) → take (length xs) (xs ++ y ∷ []) ≡ xs
    front_of [] y = refl
    front_of (x ∷ xs) y = ap (λ (zs : List ℕ). x ∷ zs) (front_of xs y)

    last_of : (xs : List ℕ) (y : ℕ) → get_or (xs ++ y ∷ []) (length xs) 0 ≡ y
    last_of [] y = refl
    last_of (x ∷ xs) y = last_of xs y

    is : (b : ℕ) → to_ascii_uppercase b ≡ b → (to_ascii_uppercase b == b) ≡ true
    is b e = ap (λ (c : ℕ). c == b) e ∙ byte b
      where
        byte : (b : ℕ) → (b == b) ≡ true
        byte b = grind (arith, nat_tests)

-- ---- decimals

pub plain-fixed : (x places : ℕ) → x < 2 ^ 64 → ArePlain (fixed_text (pos x) places)
plain-fixed x places small =
    let q_small : x / 10 ^ places < 2 ^ 64 = omega (arith, div-le_self x (10 ^ places)) in
    subst ArePlain (sym (fixed_text-plus x places))
    (plain-both (decimal (x / 10 ^ places)) (point_fraction places (x % 10 ^ places)) (plain-digits (decimal (x / 10 ^ places)) (decimal-digits (x / 10 ^ places) q_small)) (behind places (x % 10 ^ places) (mod-lt x (power-above places))))
  where
    behind : (places r : ℕ) → r < 10 ^ places → ArePlain (point_fraction places r)
    behind places r less = elim (cases_eq r 0) as (λ _. ArePlain (point_fraction places r)) [
      | inl none ↦ subst ArePlain (sym (point_fraction-none places r none)) refl
      | inr some ↦ subst ArePlain (sym (point_fraction-some places r some)) (plain-both (46 ∷ []) (fraction places r) refl (plain-digits (fraction places r) (fraction-digits places r less)))
    ]

pub length-fixed : (x places : ℕ) → x < 2 ^ 64 → length (fixed_text (pos x) places) ≤ 21 + places
length-fixed x places small =
    let q_small : x / 10 ^ places < 2 ^ 64 = omega (arith, div-le_self x (10 ^ places)) in
    omega (arith, ap length (fixed_text-plus x places), length-append (decimal (x / 10 ^ places)) (point_fraction places (x % 10 ^ places)), length-decimal-le 20 (x / 10 ^ places) (omega arith) (omega arith) q_small, behind places (x % 10 ^ places))
  where
    behind : (places r : ℕ) → length (point_fraction places r) ≤ 1 + places
    behind places r = elim (cases_eq r 0) as (λ _. length (point_fraction places r) ≤ 1 + places) [
      | inl none ↦ omega (arith, ap length (point_fraction-none places r none))
      | inr some ↦ omega (arith, ap length (point_fraction-some places r some), fraction-short places r)
    ]

pub decimal_in-fixed : (x places scale limit : ℕ) → x < 2 ^ 64 → places ≤ 18 → places ≤ scale → x * 10 ^ (scale - places) ≤ limit
    → decimal_in (pos scale) (pos limit) (trimmed (fixed_text (pos x) places)) ≡ Some (pos (x * 10 ^ (scale - places)))
unfolding decimal_in read_number_of
decimal_in-fixed x places scale limit small few fine within =
    let text = fixed_text (pos x) places in
    let same = trimmed-plain (fixed_text (pos x) places) (plain-fixed x places small) in
    ap (decimal_in (pos scale) (pos limit)) same
    ∙ ap (λ t. cond t None (found (in_limit (pos limit) (number_in (pos scale) (trimmed (fixed_text (pos x) places)))))) (not_less 40 (length (fixed_text (pos x) places)) (omega (arith, length-fixed x places small)))
    ∙ ap (λ (text : List ℕ). found (in_limit (pos limit) (number_in (pos scale) text))) same
    ∙ ap (λ n. found (in_limit (pos limit) n)) (fixed-read x places scale small fine)
    ∙ ap (λ t. found (cond t (Err OutOfUnitRange) (Ok (pos (x * 10 ^ (scale - places)))))) (not_less limit (x * 10 ^ (scale - places)) within)

pub scale_number-fixed : (multiplier : ℕ) → multiplier ≤ 10 ^ 15 → scale_number (trimmed (fixed_text (pos multiplier) 9)) ≡ Some (pos (multiplier * 10 ^ 9))
scale_number-fixed multiplier small = decimal_in-fixed multiplier 9 18 LARGEST_SCALE (omega arith) (omega arith) (omega arith) (omega arith)

pub unit_number-fixed : (unit : ℕ) → 1 ≤ unit → unit ≤ LARGEST_UNIT → unit_number (trimmed (fixed_text (pos unit) 6)) ≡ Some (pos unit)
unit_number-fixed unit some few =
    ap (from_to (pos 1) (pos LARGEST_UNIT)) (decimal_in-fixed unit 6 6 LARGEST_UNIT (omega arith) (omega arith) (omega arith) (omega arith))
    ∙ ap (λ (n : ℕ). from_to (pos 1) (pos LARGEST_UNIT) (Some (pos n))) (once unit)
    ∙ ap (λ t. cond t None (Some (pos unit))) (in_it unit some few)
  where
    once : (n : ℕ) → n * 10 ^ (6 - 6) ≡ n
    once n = omega arith

    in_it : (n : ℕ) → 1 ≤ n → n ≤ LARGEST_UNIT → (int_lt (pos n) (pos 1) || int_lt (pos LARGEST_UNIT) (pos n)) ≡ false
    in_it n h k = grind (arith, ints)
