-- Decimals as the program prints them are read back.
use Rattle.std.proofs.Common.{◌≡◌, ◌++◌, ◌∙◌, sym, ap, ℕ, zero, suc, ◌+◌, ◌-◌, ◌*◌, ◌/◌, ◌%◌, ◌^◌, ◌<◌, ◌≤◌, ◌==◌, ℤ, pos, ◌+ℤ◌, ◌-ℤ◌, Bool, false, cond, List, [], ◌∷◌, length, drop, Option, Some, None, Ok, refl, arith, decimal, append-nil, inl, inr, ◌⊎◌, ⊎_elim, subst}
use Rattle.std.specs.Prelude.{◌&&◌, option_map, int_lt}
use Rattle.std.specs.Char.{is_ascii_digit}
use Rattle.std.specs.List.{list_all, take_while}
use Rattle.std.proofs.lemmas.Int.{ints}
use Rattle.std.proofs.lemmas.Nat.{pow-add}
use Rattle.std.proofs.lemmas.Bool.{cases_eq}
use Rattle.std.proofs.lemmas.Bool.Decides.{nat_tests}
use Rattle.std.proofs.lemmas.List.Sums.{take_while-cons}
use Rattle.std.proofs.lemmas.Fmt.{decimal_nonempty}
use Rattle.std.proofs.Math.Nat.{mod-lt, div-add-mod', div-le_self}
use Rattle.emtp_fix.specs.Decimal.{fraction, point_fraction, fixed_text}
use Rattle.emtp_fix.specs.held.Decimal.{written}
use Rattle.emtp_fix.proofs.Digits.{fraction-none, fraction-digits, fraction-short, fraction-written, point_fraction-none, point_fraction-some, power-above}
use Rattle.emtp_card.specs.Decimal.{Decimal, with_digits, number_of, times_power, value_in}
use Rattle.emtp_card.specs.Numeral.{digits_of, fraction_of, exponent_of, composed, decimal_of}
use Rattle.emtp_card.specs.Number.{valued, number_in}
use Rattle.emtp_card.proofs.Digits.{with_digits-append, with_digits-is}
use Rattle.emtp_audit.proofs.Whole.{AreAllDigits, decimal-digits, decimal-number, sign_of-digits}
use Rattle.emtp_audit.proofs.Tests.{and_first, and_rest}

-- ---- the digits behind the point

-- the number that digits behind the point write
pub written-is : (places : ℕ) (digits : List ℕ) → length digits ≤ places → written places digits ≡ number_of digits * 10 ^ (places - length digits)
unfolding written
written-is zero [] short = omega arith
written-is zero (digit ∷ digits) short = absurd (omega arith)
written-is (suc places) [] short = omega arith
written-is (suc places) (digit ∷ digits) short =
    let rest = written-is places digits (omega arith) in
    let power : 10 ^ places ≡ 10 ^ length digits * 10 ^ (places - length digits) = ap (λ (k : ℕ). 10 ^ k) (here places (length digits) (omega arith)) ∙ pow-add 10 (length digits) (places - length digits) in
    let left : suc places - length (digit ∷ digits) ≡ places - length digits = omega arith in
    sum (digit - 48) (written places digits) (10 ^ places) (10 ^ length digits) (10 ^ (places - length digits)) (number_of digits) power rest
    ∙ ap (λ (v : ℕ). v * 10 ^ (places - length digits)) (sym (first (digit - 48) digits))
    ∙ ap (λ (k : ℕ). number_of (digit ∷ digits) * 10 ^ k) (sym left)
  where
    here : (p l : ℕ) → l ≤ p → p ≡ l + (p - l)
    here p l h = omega arith

    sum : (d w p l m n : ℕ) → p ≡ l * m → w ≡ n * m → d * p + w ≡ (d * l + n) * m
    sum d w p l m n e f = rw (e, f) (omega arith)

    first : (d : ℕ) (ds : List ℕ) → with_digits (10 * 0 + d) ds ≡ d * 10 ^ length ds + number_of ds
    first d ds = with_digits-is (10 * 0 + d) ds ∙ ap (λ (k : ℕ). k * 10 ^ length ds + number_of ds) (ten d)
      where
        ten : (d : ℕ) → 10 * 0 + d ≡ d
        ten d = omega arith

-- ---- taken apart

-- a text that begins with no digit
abbrev pub BeginsOtherwise : List ℕ → Type 0
BeginsOtherwise [] = Unit {0}
BeginsOtherwise (byte ∷ bytes) = is_ascii_digit byte ≡ false

take_digits : (digits tail : List ℕ) → AreAllDigits digits → BeginsOtherwise tail → take_while is_ascii_digit (digits ++ tail) ≡ digits
take_digits [] [] are other = refl
take_digits [] (byte ∷ tail) are other = take_while-cons is_ascii_digit byte tail ∙ ap (λ t. cond t (byte ∷ take_while is_ascii_digit tail) []) other
take_digits (digit ∷ digits) tail are other =
    take_while-cons is_ascii_digit digit (digits ++ tail)
    ∙ ap (λ t. cond t (digit ∷ take_while is_ascii_digit (digits ++ tail)) []) (and_first (is_ascii_digit digit) (list_all is_ascii_digit digits) are)
    ∙ ap (λ (ds : List ℕ). digit ∷ ds) (take_digits digits tail (and_rest (is_ascii_digit digit) (list_all is_ascii_digit digits) are) other)

drop_all : (xs ys : List ℕ) → drop (length xs) (xs ++ ys) ≡ ys
drop_all [] ys = refl
drop_all (x ∷ xs) ys = drop_all xs ys

pub digits_of-digits : (digits tail : List ℕ) → AreAllDigits digits → BeginsOtherwise tail → digits_of (digits ++ tail) ≡ (digits, tail)
digits_of-digits digits tail are other =
    ap (λ (ds : List ℕ). (ds, drop (length ds) (digits ++ tail))) (take_digits digits tail are other)
    ∙ ap (λ (rest : List ℕ). (digits, rest)) (drop_all digits tail)

-- the decimal of digits before the point and behind it
pub decimal_of-digits : (whole digits tail : List ℕ) → AreAllDigits whole → 0 < length whole → AreAllDigits digits
    → (tail ≡ 46 ∷ digits) ⊎ ((tail ≡ []) × (digits ≡ []))
    → decimal_of (whole ++ tail) ≡ Some (composed false whole digits (pos 0))
unfolding decimal_of exponent_of
decimal_of-digits whole digits tail are some behind tail_is =
    let other : BeginsOtherwise tail = ⊎_elim (λ e. subst BeginsOtherwise (sym e) refl) (λ e. subst BeginsOtherwise (sym e.0) tt) tail_is in
    let after : fraction_of tail ≡ (digits, []) =
    ⊎_elim
    (λ e. ap fraction_of e ∙ ap digits_of (sym (append-nil digits)) ∙ digits_of-digits digits [] behind tt)
    (λ e. ap fraction_of e.0 ∙ ap (λ (ds : List ℕ). (ds, [])) (sym e.1))
    tail_is in
    ap (λ (s : Bool × List ℕ). from_rest s.0 (digits_of s.1)) (sign_of-digits whole tail are some)
    ∙ ap (from_rest false) (digits_of-digits whole tail are other)
    ∙ ap (λ (f : List ℕ × List ℕ). from_fraction false whole f) after
    ∙ ap (λ t. cond (t && (length digits == 0)) None (Some (composed false whole digits (pos 0)))) (not_zero (length whole) some)
  where
    from_fraction : Bool → List ℕ → List ℕ × List ℕ → Option Decimal
    from_fraction n w f = cond ((length w == 0) && (length f.0 == 0)) None (option_map (composed n w f.0) (exponent_of f.1))

    from_rest : Bool → List ℕ × List ℕ → Option Decimal
    from_rest n w = from_fraction n w.0 (fraction_of w.1)

    not_zero : (n : ℕ) → 0 < n → (n == 0) ≡ false
    not_zero n h = grind (arith, nat_tests)

-- its value, in a unit of 10^-scale
value_in-digits : (scale : ℕ) (whole digits : List ℕ) → length digits ≤ scale
    → value_in (pos scale) (composed false whole digits (pos 0)) ≡ pos (number_of (whole ++ digits) * 10 ^ (scale - length digits))
unfolding value_in
value_in-digits scale whole digits short =
    let power : (pos 0 -ℤ pos (length digits)) +ℤ pos scale ≡ pos (scale - length digits) = omega (arith, ints) in
    ap (times_power (pos (number_of (whole ++ digits)))) power

-- the number that all digits write, in parts of 10^scale
all_digits : (scale places q r : ℕ) (whole digits : List ℕ) → length digits ≤ places → places ≤ scale → number_of whole ≡ q → written places digits ≡ r
    → number_of (whole ++ digits) * 10 ^ (scale - length digits) ≡ (q * 10 ^ places + r) * 10 ^ (scale - places)
all_digits scale places q r whole digits short fine front behind =
    let number : number_of (whole ++ digits) ≡ number_of whole * 10 ^ length digits + number_of digits = with_digits-append 0 whole digits ∙ with_digits-is (number_of whole) digits in
    let power : 10 ^ (scale - length digits) ≡ 10 ^ (places - length digits) * 10 ^ (scale - places) =
    ap (λ (k : ℕ). 10 ^ k) (three scale places (length digits) short fine) ∙ pow-add 10 (places - length digits) (scale - places) in
    let ten : 10 ^ places ≡ 10 ^ length digits * 10 ^ (places - length digits) =
    ap (λ (k : ℕ). 10 ^ k) (two places (length digits) short) ∙ pow-add 10 (length digits) (places - length digits) in
    product (number_of (whole ++ digits)) (number_of whole) (10 ^ length digits) (number_of digits) (10 ^ (scale - length digits)) (10 ^ (places - length digits)) (10 ^ (scale - places)) (10 ^ places) q r
    number power ten front (sym behind ∙ written-is places digits short)
  where
    two : (p l : ℕ) → l ≤ p → p ≡ l + (p - l)
    two p l h = omega arith

    three : (s p l : ℕ) → l ≤ p → p ≤ s → s - l ≡ (p - l) + (s - p)
    three s p l h k = omega arith

    product : (n w l d a b c p q r : ℕ) → n ≡ w * l + d → a ≡ b * c → p ≡ l * b → w ≡ q → r ≡ d * b → n * a ≡ (q * p + r) * c
    product n w l d a b c p q r e f g h i = rw (e, f, g, h, i) (omega arith)

no_sign : (x : ℕ) → int_lt (pos x) (pos 0) ≡ false
no_sign x = grind (arith, ints)

pub fixed_text-plus : (x places : ℕ) → fixed_text (pos x) places ≡ decimal (x / 10 ^ places) ++ point_fraction places (x % 10 ^ places)
unfolding fixed_text
fixed_text-plus x places = ap (λ t. (cond t (45 ∷ []) [] ++ decimal (x / 10 ^ places)) ++ point_fraction places (x % 10 ^ places)) (no_sign x)

-- what is printed is read back, in a unit that is as fine or finer
pub fixed-read : (x places scale : ℕ) → x < 2 ^ 64 → places ≤ scale → number_in (pos scale) (fixed_text (pos x) places) ≡ Ok (pos (x * 10 ^ (scale - places)))
unfolding number_in
fixed-read x places scale small fine =
    let q = x / 10 ^ places in
    let r = x % 10 ^ places in
    let less : r < 10 ^ places = mod-lt x (power-above places) in
    let q_small : q < 2 ^ 64 = less_part x (10 ^ places) (power-above places) small in
    let parts : (point_fraction places r ≡ 46 ∷ fraction places r) ⊎ ((point_fraction places r ≡ []) × (fraction places r ≡ [])) =
    elim (cases_eq r 0) [
      | inl none ↦ inr (point_fraction-none places r none, ap (fraction places) none ∙ fraction-none places)
      | inr some ↦ inl (point_fraction-some places r some)
    ] in
    let read = decimal_of-digits (decimal q) (fraction places r) (point_fraction places r) (decimal-digits q q_small) (decimal_nonempty q q_small) (fraction-digits places r less) parts in
    let value = value_in-digits scale (decimal q) (fraction places r) (omega (arith, fraction-short places r, fine)) in
    let number = all_digits scale places q r (decimal q) (fraction places r) (fraction-short places r) fine (decimal-number q q_small) (fraction-written places r less) in
    ap (λ (text : List ℕ). valued (pos scale) (decimal_of text)) (fixed_text-plus x places)
    ∙ ap (valued (pos scale)) read
    ∙ ap (λ (v : ℤ). Ok v) value
    ∙ ap (λ (v : ℕ). Ok (pos v)) (number ∙ ap (λ (v : ℕ). v * 10 ^ (scale - places)) (div-add-mod' x (10 ^ places)))
  where
    less_part : (x d : ℕ) → 0 < d → x < 2 ^ 64 → x / d < 2 ^ 64
    less_part x d some small = omega (arith, div-le_self x d)
