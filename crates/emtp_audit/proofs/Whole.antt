-- Whole numbers as the program prints them are read back.
use Rattle.std.proofs.Common.{◌≡◌, ◌++◌, ◌∙◌, sym, ap, ℕ, suc, ◌^◌, ◌<◌, ◌≤◌, ◌==◌, ℤ, pos, negsuc, unsigned_abs, Bool, true, false, cond, List, [], ◌∷◌, length, Some, None, option_map, arith, rules, nat_le, decimal, append-nil}
use Rattle.std.specs.Prelude.{◌&&◌}
use Rattle.std.specs.Char.{is_ascii_digit}
use Rattle.std.specs.List.{list_all}
use Rattle.std.specs.Fmt.{signed_decimal}
use Rattle.std.proofs.lemmas.Bool.Decides.{nat_tests}
use Rattle.std.proofs.lemmas.Str.Parse.{IsNumeralModel, numerals_by_fold}
use Rattle.std.proofs.lemmas.Fmt.{digits_decimal, digits_value-decimal, length-decimal-le, decimal_nonempty}
use Rattle.emtp_card.specs.Decimal.{with_digits, number_of, signed}
use Rattle.emtp_card.specs.Numeral.{sign_of, few_digits, limited_whole}
use Rattle.emtp_audit.specs.Numbers.{whole_of, stamp_of}

abbrev pub AreAllDigits : List ℕ → Type 0
AreAllDigits bytes = list_all is_ascii_digit bytes ≡ true

pub read_by : IsNumeralModel AreAllDigits number_of
read_by = numerals_by_fold _ (search rules) with_digits (search rules)

pub decimal-digits : (n : ℕ) → n < 2 ^ 64 → AreAllDigits (decimal n)
decimal-digits n small = digits_decimal read_by n small

pub decimal-number : (n : ℕ) → n < 2 ^ 64 → number_of (decimal n) ≡ n
decimal-number n small = digits_value-decimal read_by n small

-- digits have no sign in front
pub sign_of-digits : (bytes more : List ℕ) → AreAllDigits bytes → 0 < length bytes → sign_of (bytes ++ more) ≡ (false, bytes ++ more)
sign_of-digits [] more are some = absurd (omega arith)
sign_of-digits (byte ∷ bytes) more are some = by_first byte (bytes ++ more) (first byte (list_all is_ascii_digit bytes) are)
  where
    first : (b : ℕ) (t : Bool) → (is_ascii_digit b && t) ≡ true → is_ascii_digit b ≡ true
    first b t e = grind (arith, nat_tests)

    by_first : (b : ℕ) (bs : List ℕ) → is_ascii_digit b ≡ true → sign_of (b ∷ bs) ≡ (false, b ∷ bs)
    by_first b bs e =
        let no_plus : (b == 43) ≡ false = grind (arith, nat_tests) in
        let no_minus : (b == 45) ≡ false = grind (arith, nat_tests) in
        ◌∙◌ {b = cond (b == 45) (true, bs) (false, b ∷ bs)}
        (ap (λ t. cond t (false, bs) (cond (b == 45) (true, bs) (false, b ∷ bs))) no_plus)
        (ap (λ t. cond t (true, bs) (false, b ∷ bs)) no_minus)

-- a number of few digits
few-decimal : (most n : ℕ) → 0 < most → n < 10 ^ most → n < 2 ^ 64 → few_digits most (decimal n) ≡ Some n
few-decimal most n some few small =
    ap (λ t. cond t (Some (number_of (decimal n))) None) (all_three (list_all is_ascii_digit (decimal n)) (length (decimal n)) most (decimal-digits n small) (decimal_nonempty n small) (length-decimal-le most n some few small))
    ∙ ap (λ (m : ℕ). Some m) (decimal-number n small)
  where
    all_three : (t : Bool) (l most : ℕ) → t ≡ true → 0 < l → l ≤ most → (t && (nat_le 1 l && nat_le l most)) ≡ true
    all_three t l most e some few = grind (arith, nat_tests)

pub whole-decimal : (n : ℕ) → n < 10 ^ 9 → whole_of (decimal n) ≡ Some (pos n)
unfolding whole_of limited_whole
whole-decimal n few =
    let small : n < 2 ^ 64 = omega arith in
    ap (λ (s : Bool × List ℕ). option_map (signed s.0) (few_digits 9 s.1)) (sign_here (decimal n) (decimal-digits n small) (decimal_nonempty n small))
    ∙ ap (option_map (signed false)) (few-decimal 9 n (omega arith) few small)
  where
    sign_here : (bytes : List ℕ) → AreAllDigits bytes → 0 < length bytes → sign_of bytes ≡ (false, bytes)
    sign_here [] are some = absurd (omega arith)
    sign_here (byte ∷ bytes) are some = ap sign_of (sym (append-nil (byte ∷ bytes))) ∙ sign_of-digits (byte ∷ bytes) [] are some ∙ ap (λ (bs : List ℕ). (false, bs)) (append-nil (byte ∷ bytes))

pub whole-signed : (z : ℤ) → unsigned_abs z < 10 ^ 9 → whole_of (signed_decimal z) ≡ Some z
unfolding whole_of limited_whole
whole-signed (pos n) few = whole-decimal n few
whole-signed (negsuc n) few = ap (option_map (signed true)) (few-decimal 9 (suc n) (omega arith) few (omega arith))

pub stamp-decimal : (n : ℕ) → n < 10 ^ 10 → stamp_of (decimal n) ≡ Some (pos n)
unfolding stamp_of
stamp-decimal n few =
    ap (option_map pos) (few-decimal 10 n (omega arith) few (omega arith))
