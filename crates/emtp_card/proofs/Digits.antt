-- Digits: those in front of a text, and the number that they write.
use Rattle.std.proofs.Common.{◌≡◌, ◌∙◌, sym, ap, subst, ℕ, suc, ◌+◌, ◌-◌, ◌*◌, ◌^◌, ◌<◌, ◌≤◌, Bool, true, false, cond, List, [], ◌∷◌, ◌++◌, take, drop, length, get_or, refl, arith, take-append-drop, pow-suc, mul-le-mul_right}
use Rattle.std.proofs.lemmas.List.{take_more}
use Rattle.std.specs.Char.{is_ascii_digit, IsAsciiDigit}
use Rattle.std.specs.List.{take_while}
use Rattle.std.proofs.lemmas.Bool.Decides.{nat_tests}
use Rattle.std.proofs.lemmas.List.Elements.{All-nil, All-cons, All-head, All-tail}
use Rattle.std.proofs.lemmas.List.Sums.{take_while-cons}
use Rattle.emtp_card.specs.Decimal.{with_digits, number_of}
use Rattle.emtp_card.specs.held.Numeral.{AreDigits}

pub is_digit_means : (byte : ℕ) → is_ascii_digit byte ≡ true → IsAsciiDigit byte
is_digit_means byte h = grind (arith, nat_tests)

-- what is taken while it is a digit is digits
pub digits_in_front : (bytes : List ℕ) → AreDigits (take_while is_ascii_digit bytes)
digits_in_front [] = All-nil IsAsciiDigit
digits_in_front (byte ∷ bytes) =
    subst AreDigits (sym (take_while-cons is_ascii_digit byte bytes)) (by_first byte (take_while is_ascii_digit bytes) (digits_in_front bytes) (is_ascii_digit byte) refl)
  where
    by_first : (byte : ℕ) (digits : List ℕ) → AreDigits digits → (t : Bool) → is_ascii_digit byte ≡ t → AreDigits (cond t (byte ∷ digits) [])
    by_first byte digits are true h = All-cons IsAsciiDigit byte digits (is_digit_means byte h) are
    by_first byte digits are false h = All-nil IsAsciiDigit

-- digits after a number make it no smaller
pub le-with_digits : (n : ℕ) (digits : List ℕ) → n ≤ with_digits n digits
le-with_digits n [] = omega arith
le-with_digits n (digit ∷ digits) = omega (arith, le-with_digits (10 * n + (digit - 48)) digits)

pub with_digits-append : (n : ℕ) (front after : List ℕ) → with_digits n (front ++ after) ≡ with_digits (with_digits n front) after
with_digits-append n [] after = refl
with_digits-append n (digit ∷ front) after = with_digits-append (10 * n + (digit - 48)) front after

-- a front writes no greater number than the whole
pub front-le : (n : ℕ) (digits : List ℕ) (count : ℕ) → with_digits n (take count digits) ≤ with_digits n digits
front-le n digits count =
    omega (arith, le-with_digits (with_digits n (take count digits)) (drop count digits), with_digits-append n (take count digits) (drop count digits), ap (with_digits n) (take-append-drop count digits))

-- digits after a number shift it by their count
pub with_digits-is : (n : ℕ) (digits : List ℕ) → with_digits n digits ≡ n * 10 ^ length digits + number_of digits
with_digits-is n [] = omega arith
with_digits-is n (digit ∷ digits) =
    with_digits-is (10 * n + (digit - 48)) digits
    ∙ regroup n (digit - 48) (number_of digits) (10 ^ length digits) (10 ^ suc (length digits)) (pow-suc 10 (length digits))
    ∙ ap (λ v. n * 10 ^ suc (length digits) + v) (sym (with_digits-is (10 * 0 + (digit - 48)) digits))
  where
    regroup : (n x v p q : ℕ) → q ≡ p * 10 → (10 * n + x) * p + v ≡ n * q + ((10 * 0 + x) * p + v)
    regroup n x v p q e = rw e (omega arith)

-- digits write a number below ten to the power of their count
pub number_of-lt : (digits : List ℕ) → AreDigits digits → number_of digits < 10 ^ length digits
number_of-lt [] are = omega arith
number_of-lt (digit ∷ digits) are =
    let first = All-head IsAsciiDigit digit digits are in
    let rest = number_of-lt digits (All-tail IsAsciiDigit digit digits are) in
    let times : (digit - 48) * 10 ^ length digits ≤ 9 * 10 ^ length digits = mul-le-mul_right (10 ^ length digits) (omega arith) in
    omega (arith, with_digits-is (10 * 0 + (digit - 48)) digits, pow-suc 10 (length digits), rest, times)

-- one digit more of a front
pub with_digits_more : (n : ℕ) (digits : List ℕ) (i : ℕ) → i < length digits → with_digits n (take (i + 1) digits) ≡ 10 * with_digits n (take i digits) + (get_or digits i 0 - 48)
with_digits_more n digits i within = ap (with_digits n) (take_more digits i 0 within) ∙ with_digits-append n (take i digits) (get_or digits i 0 ∷ [])
