-- The reader reads each spelling of the grammar as what it means, and reads nothing else.
use Rattle.std.proofs.Common.{◌≡◌, ◌≢◌, ◌∙◌, sym, ap, subst, ℕ, ◌+◌, ◌≤◌, ◌==◌, Bool, true, false, cond, ◌&&◌, nat_le, ℤ, List, [], ◌∷◌, ◌++◌, length, drop, Option, Some, None, option_map, take_while, refl, arith}
use Rattle.std.specs.Char.{is_ascii_digit, IsAsciiDigit}
use Rattle.std.specs.List.{list_all}
use Rattle.std.proofs.lemmas.Bool.Decides.{nat_tests}
use Rattle.std.proofs.lemmas.List.Elements.{All-nil, All-head, All-tail, All-weaker}
use Rattle.std.proofs.lemmas.Option.{cond_some}
use Rattle.std.proofs.lemmas.List.Sums.{take_while-cons, AllPass-from_list_all}
use Rattle.emtp_card.specs.Decimal.{Decimal, signed, number_of}
use Rattle.emtp_card.specs.Numeral.{sign_of, digits_of, fraction_of, few_digits, limited_whole, power_of, is_marker, is_sign, exponent_of, composed, decimal_of}
use Rattle.emtp_card.specs.held.Numeral.{AreDigits}
use Rattle.emtp_card.specs.Spelling.{Sign, Unsigned, Plus, Minus, sign_text, is_minus, fraction_text, fraction_digits, Exponent, Absent, Lettered, Bare, exponent_text, exponent_value, AreFewDigits, IsExponent, Spelling, IsSpelling, text_of, decimal_meant, Spells}
use Rattle.emtp_card.proofs.Digits.{digits_in_front, is_digit_means}

-- what a text begins with: no sign, no digit, no point
abbrev NoSign : List ℕ → Type 0
NoSign [] = Unit {0}
NoSign (byte ∷ bytes) = (byte ≢ 43) × (byte ≢ 45)

abbrev NoDigit : List ℕ → Type 0
NoDigit [] = Unit {0}
NoDigit (byte ∷ bytes) = is_ascii_digit byte ≡ false

abbrev NoPoint : List ℕ → Type 0
NoPoint [] = Unit {0}
NoPoint (byte ∷ bytes) = byte ≢ 46

eq_false : (a b : ℕ) → a ≢ b → (a == b) ≡ false
eq_false a b h = grind (arith, nat_tests)

digit_true : (byte : ℕ) → IsAsciiDigit byte → is_ascii_digit byte ≡ true
digit_true byte h = grind (arith, nat_tests)

-- the sign
sign_of-text : (sign : Sign) (bytes : List ℕ) → NoSign bytes → sign_of (sign_text sign ++ bytes) ≡ (is_minus sign, bytes)
sign_of-text Plus bytes h = refl
sign_of-text Minus bytes h = refl
sign_of-text Unsigned [] h = refl
sign_of-text Unsigned (byte ∷ bytes) h =
    ap (λ t. cond t (false, bytes) (cond (byte == 45) (true, bytes) (false, byte ∷ bytes))) (eq_false byte 43 h.0)
    ∙ ap (λ t. cond t (true, bytes) (false, byte ∷ bytes)) (eq_false byte 45 h.1)

-- the digits
take_while-none : (bytes : List ℕ) → NoDigit bytes → take_while is_ascii_digit bytes ≡ []
take_while-none [] h = refl
take_while-none (byte ∷ bytes) h = take_while-cons is_ascii_digit byte bytes ∙ ap (λ t. cond t (byte ∷ take_while is_ascii_digit bytes) []) h

take_while-digits : (digits bytes : List ℕ) → AreDigits digits → NoDigit bytes → take_while is_ascii_digit (digits ++ bytes) ≡ digits
take_while-digits [] bytes are h = take_while-none bytes h
take_while-digits (digit ∷ digits) bytes are h =
    take_while-cons is_ascii_digit digit (digits ++ bytes)
    ∙ ap (λ t. cond t (digit ∷ take_while is_ascii_digit (digits ++ bytes)) []) (digit_true digit (All-head IsAsciiDigit digit digits are))
    ∙ ap (λ t. digit ∷ t) (take_while-digits digits bytes (All-tail IsAsciiDigit digit digits are) h)

drop-front : (front after : List ℕ) → drop (length front) (front ++ after) ≡ after
drop-front [] after = refl
drop-front (byte ∷ front) after = drop-front front after

digits_of-text : (digits bytes : List ℕ) → AreDigits digits → NoDigit bytes → digits_of (digits ++ bytes) ≡ (digits, bytes)
digits_of-text digits bytes are h =
    let front = take_while-digits digits bytes are h in
    ap (λ ds. (ds, drop (length ds) (digits ++ bytes))) front ∙ ap (λ bs. (digits, bs)) (drop-front digits bytes)

-- the digits after the point
fraction_of-text : (fraction : Option (List ℕ)) (bytes : List ℕ) → AreDigits (fraction_digits fraction) → NoDigit bytes → NoPoint bytes → fraction_of (fraction_text fraction ++ bytes) ≡ (fraction_digits fraction, bytes)
fraction_of-text (Some digits) bytes are no_digit no_point = digits_of-text digits bytes are no_digit
fraction_of-text None [] are no_digit no_point = refl
fraction_of-text None (byte ∷ bytes) are no_digit no_point = ap (λ t. cond t (digits_of bytes) ([], byte ∷ bytes)) (eq_false byte 46 no_point)

-- the exponent
digits_pass : (digits : List ℕ) → AreDigits digits → list_all is_ascii_digit digits ≡ true
digits_pass [] are = refl
digits_pass (digit ∷ digits) are = ap (λ t. t && list_all is_ascii_digit digits) (digit_true digit (All-head IsAsciiDigit digit digits are)) ∙ digits_pass digits (All-tail IsAsciiDigit digit digits are)

few_digits-text : (digits : List ℕ) → AreFewDigits digits → few_digits 3 digits ≡ Some (number_of digits)
few_digits-text digits few =
    ap (λ t. cond (t && (nat_le 1 (length digits) && nat_le (length digits) 3)) (Some (number_of digits)) None) (digits_pass digits few.are)
    ∙ ap (λ t. cond t (Some (number_of digits)) None) (one_to_three (length digits) few.some few.few)
  where
    one_to_three : (n : ℕ) → 1 ≤ n → n ≤ 3 → (nat_le 1 n && nat_le n 3) ≡ true
    one_to_three n low high = grind (arith, nat_tests)

digits_no_sign : (digits : List ℕ) → AreDigits digits → NoSign digits
digits_no_sign [] are = tt
digits_no_sign (digit ∷ digits) are = let first = All-head IsAsciiDigit digit digits are in (λ e. omega (arith, e, first.0), λ e. omega (arith, e, first.0))

power_of-text : (sign : Sign) (digits : List ℕ) → AreFewDigits digits → power_of (sign_text sign ++ digits) ≡ Some (signed (is_minus sign) (number_of digits))
unfolding limited_whole
power_of-text sign digits few =
    ap (λ s. option_map (signed s.0) (few_digits 3 s.1)) (sign_of-text sign digits (digits_no_sign digits few.are))
    ∙ ap (option_map (signed (is_minus sign))) (few_digits-text digits few)

exponent_of-text : (exponent : Exponent) → IsExponent exponent → exponent_of (exponent_text exponent) ≡ Some (exponent_value exponent)
unfolding exponent_of
exponent_of-text Absent h = refl
exponent_of-text (Lettered letter sign digits) h = ap (λ t. cond t (power_of (sign_text sign ++ digits)) (cond (is_sign letter) (power_of (letter ∷ (sign_text sign ++ digits))) None)) h.0 ∙ power_of-text sign digits h.1
exponent_of-text (Bare Unsigned digits) h = absurd (h.0 refl)
exponent_of-text (Bare Plus digits) h = power_of-text Plus digits h.1
exponent_of-text (Bare Minus digits) h = power_of-text Minus digits h.1

-- what stands after each part begins with nothing that would lengthen it
marker_no_digit : (letter : ℕ) → is_marker letter ≡ true → is_ascii_digit letter ≡ false
marker_no_digit letter h = grind (arith, nat_tests)

marker_no_point : (letter : ℕ) → is_marker letter ≡ true → letter ≢ 46
marker_no_point letter h = λ e. no_marker (sym (ap is_marker e) ∙ h)
  where
    no_marker : is_marker 46 ≡ true → ⊥
    no_marker h = absurd (cc)

exponent_no_digit : (exponent : Exponent) → IsExponent exponent → NoDigit (exponent_text exponent)
exponent_no_digit Absent h = tt
exponent_no_digit (Lettered letter sign digits) h = marker_no_digit letter h.0
exponent_no_digit (Bare Unsigned digits) h = absurd (h.0 refl)
exponent_no_digit (Bare Plus digits) h = refl
exponent_no_digit (Bare Minus digits) h = refl

exponent_no_point : (exponent : Exponent) → IsExponent exponent → NoPoint (exponent_text exponent)
exponent_no_point Absent h = tt
exponent_no_point (Lettered letter sign digits) h = marker_no_point letter h.0
exponent_no_point (Bare Unsigned digits) h = absurd (h.0 refl)
exponent_no_point (Bare Plus digits) h = λ e. absurd (omega (arith, e))
exponent_no_point (Bare Minus digits) h = λ e. absurd (omega (arith, e))

fraction_no_digit : (fraction : Option (List ℕ)) (bytes : List ℕ) → NoDigit bytes → NoDigit (fraction_text fraction ++ bytes)
fraction_no_digit None bytes h = h
fraction_no_digit (Some digits) bytes h = refl

whole_no_sign : (whole : List ℕ) (fraction : Option (List ℕ)) (bytes : List ℕ) → AreDigits whole → 1 ≤ length whole + length (fraction_digits fraction) → NoSign (whole ++ (fraction_text fraction ++ bytes))
whole_no_sign (digit ∷ whole) fraction bytes are some = let first = All-head IsAsciiDigit digit whole are in (λ e. omega (arith, e, first.0), λ e. omega (arith, e, first.0))
whole_no_sign [] (Some digits) bytes are some = (λ e. absurd (omega (arith, e)), λ e. absurd (omega (arith, e)))
whole_no_sign [] None bytes are some = absurd (omega (arith, some))

-- what the reader makes of the parts
abbrev from_fraction : Bool → List ℕ → List ℕ × List ℕ → Option Decimal
from_fraction negative whole fraction = cond ((length whole == 0) && (length fraction.0 == 0)) None (option_map (composed negative whole fraction.0) (exponent_of fraction.1))

abbrev from_whole : Bool → List ℕ × List ℕ → Option Decimal
from_whole negative whole = from_fraction negative whole.0 (fraction_of whole.1)

abbrev from_sign : Bool × List ℕ → Option Decimal
from_sign sign = from_whole sign.0 (digits_of sign.1)

decimal_of-is : (text : List ℕ) → decimal_of text ≡ from_sign (sign_of text)
unfolding decimal_of
decimal_of-is text = refl

some_digit : (m n : ℕ) → 1 ≤ m + n → ((m == 0) && (n == 0)) ≡ false
some_digit m n h = grind (arith, nat_tests)

-- each spelling is read as what it means
decimal_of-text : (s : Spelling) → IsSpelling s → decimal_of (text_of s) ≡ Some (decimal_meant s)
decimal_of-text s right =
    let after = exponent_text s.exponent in
    let no_digit = exponent_no_digit s.exponent right.exponent in
    decimal_of-is (text_of s)
    ∙ ap from_sign (sign_of-text s.sign (s.whole ++ (fraction_text s.fraction ++ after)) (whole_no_sign s.whole s.fraction after right.whole right.some))
    ∙ ap (from_whole (is_minus s.sign)) (digits_of-text s.whole (fraction_text s.fraction ++ after) right.whole (fraction_no_digit s.fraction after no_digit))
    ∙ ap (from_fraction (is_minus s.sign) s.whole) (fraction_of-text s.fraction after right.fraction no_digit (exponent_no_point s.exponent right.exponent))
    ∙ ap (λ t. cond t None (option_map (composed (is_minus s.sign) s.whole (fraction_digits s.fraction)) (exponent_of after))) (some_digit (length s.whole) (length (fraction_digits s.fraction)) right.some)
    ∙ ap (option_map (composed (is_minus s.sign) s.whole (fraction_digits s.fraction))) (exponent_of-text s.exponent right.exponent)

-- a text is the sign that is read, and what is left
record SignIs (text : List ℕ) (read : Bool × List ℕ) : Type 0 where
  pub sign : Sign
  pub text_is : text ≡ sign_text sign ++ read.1
  pub minus : is_minus sign ≡ read.0

eq_true : (a b : ℕ) → (a == b) ≡ true → a ≡ b
eq_true a b h = grind (arith, nat_tests)

sign_is : (text : List ℕ) → SignIs text (sign_of text)
sign_is [] = record { sign = Unsigned; text_is = refl; minus = refl }
sign_is (byte ∷ bytes) = by_byte byte bytes (byte == 43) (byte == 45) (eq_true byte 43) (eq_true byte 45)
  where
    by_byte : (byte : ℕ) (bytes : List ℕ) (plus minus : Bool) → (plus ≡ true → byte ≡ 43) → (minus ≡ true → byte ≡ 45) → SignIs (byte ∷ bytes) (cond plus (false, bytes) (cond minus (true, bytes) (false, byte ∷ bytes)))
    by_byte byte bytes true minus p m = record { sign = Plus; text_is = ap (λ b. b ∷ bytes) (p refl); minus = refl }
    by_byte byte bytes false true p m = record { sign = Minus; text_is = ap (λ b. b ∷ bytes) (m refl); minus = refl }
    by_byte byte bytes false false p m = record { sign = Unsigned; text_is = refl; minus = refl }

-- it is the digits that are read, and what is left
digits_is : (text : List ℕ) → text ≡ (digits_of text).0 ++ (digits_of text).1
digits_is [] = refl
digits_is (byte ∷ bytes) =
    let P : List ℕ → Type 0 = λ ds. byte ∷ bytes ≡ ds ++ drop (length ds) (byte ∷ bytes) in
    subst P (sym (take_while-cons is_ascii_digit byte bytes)) (by_test byte bytes (is_ascii_digit byte) (digits_is bytes))
  where
    by_test : (byte : ℕ) (bytes : List ℕ) (t : Bool) → bytes ≡ (digits_of bytes).0 ++ (digits_of bytes).1 → byte ∷ bytes ≡ cond t (byte ∷ take_while is_ascii_digit bytes) [] ++ drop (length (cond t (byte ∷ take_while is_ascii_digit bytes) [])) (byte ∷ bytes)
    by_test byte bytes true rest = ap (λ bs. byte ∷ bs) rest
    by_test byte bytes false rest = refl

-- it is the point and the digits that are read, and what is left
record FractionIs (text : List ℕ) (read : List ℕ × List ℕ) : Type 0 where
  pub fraction : Option (List ℕ)
  pub text_is : text ≡ fraction_text fraction ++ read.1
  pub digits : fraction_digits fraction ≡ read.0
  pub are : AreDigits read.0

fraction_is : (text : List ℕ) → FractionIs text (fraction_of text)
fraction_is [] = record { fraction = None; text_is = refl; digits = refl; are = All-nil IsAsciiDigit }
fraction_is (byte ∷ bytes) = by_point byte bytes (byte == 46) (eq_true byte 46)
  where
    by_point : (byte : ℕ) (bytes : List ℕ) (point : Bool) → (point ≡ true → byte ≡ 46) → FractionIs (byte ∷ bytes) (cond point (digits_of bytes) ([], byte ∷ bytes))
    by_point byte bytes true p = record { fraction = Some (digits_of bytes).0; text_is = ap (λ b. b ∷ bytes) (p refl) ∙ ap (λ bs. 46 ∷ bs) (digits_is bytes); digits = refl; are = digits_in_front bytes }
    by_point byte bytes false p = record { fraction = None; text_is = refl; digits = refl; are = All-nil IsAsciiDigit }

-- it is the exponent that is read
and_true : (a b : Bool) → (a && b) ≡ true → (a ≡ true) × (b ≡ true)
and_true true b h = (refl, h)
and_true false b h = absurd (cc)

map_some : {X Y : Type 0} (f : X → Y) (o : Option X) (y : Y) → option_map f o ≡ Some y → (x : X) × (o ≡ Some x) × (f x ≡ y)
map_some f None y h = absurd (cc)
map_some f (Some x) y h = (x, refl, cc)

few_digits_are : (digits : List ℕ) (n : ℕ) → few_digits 3 digits ≡ Some n → AreFewDigits digits × (number_of digits ≡ n)
few_digits_are digits n h =
    let found = cond_some (list_all is_ascii_digit digits && (nat_le 1 (length digits) && nat_le (length digits) 3)) (number_of digits) n h in
    let digital = and_true (list_all is_ascii_digit digits) (nat_le 1 (length digits) && nat_le (length digits) 3) found.0 in
    let counted = and_true (nat_le 1 (length digits)) (nat_le (length digits) 3) digital.1 in (
      record {
        are = All-weaker (λ b. is_ascii_digit b ≡ true) IsAsciiDigit is_digit_means digits (AllPass-from_list_all is_ascii_digit digits digital.0);
        some = le_means 1 (length digits) counted.0;
        few = le_means (length digits) 3 counted.1;
      },
      found.1,
    )
  where
    le_means : (m n : ℕ) → nat_le m n ≡ true → m ≤ n
    le_means m n h = grind (arith, nat_tests)

record PowerIs (text : List ℕ) (power : ℤ) : Type 0 where
  pub sign : Sign
  pub digits : List ℕ
  pub few : AreFewDigits digits
  pub text_is : text ≡ sign_text sign ++ digits
  pub value : signed (is_minus sign) (number_of digits) ≡ power

power_is : (text : List ℕ) (power : ℤ) → power_of text ≡ Some power → PowerIs text power
unfolding limited_whole
power_is text power h =
    let sign = sign_is text in
    let found = map_some (signed (sign_of text).0) (few_digits 3 (sign_of text).1) power h in
    let few = few_digits_are (sign_of text).1 found.0 found.1 in
    record {
      sign = sign.sign;
      digits = (sign_of text).1;
      few = few.0;
      text_is = sign.text_is;
      value = ap (λ s. signed s (number_of (sign_of text).1)) sign.minus ∙ ap (signed (sign_of text).0) few.1 ∙ found.2;
    }

record ExponentIs (text : List ℕ) (power : ℤ) : Type 0 where
  pub exponent : Exponent
  pub right : IsExponent exponent
  pub text_is : text ≡ exponent_text exponent
  pub value : exponent_value exponent ≡ power

sign_no_digit : (byte : ℕ) → is_sign byte ≡ true → IsAsciiDigit byte → ⊥
sign_no_digit byte h digit = grind (arith, nat_tests)

-- a power that begins with a sign has one
bare_is : (byte : ℕ) (bytes : List ℕ) (power : ℤ) → is_sign byte ≡ true → PowerIs (byte ∷ bytes) power → ExponentIs (byte ∷ bytes) power
bare_is byte bytes power signs p = record {
  exponent = Bare p.sign p.digits;
  right = (λ e. none p.sign p.digits p.few.are p.text_is e, p.few);
  text_is = p.text_is;
  value = p.value;
}
  where
    none : (sign : Sign) (digits : List ℕ) → AreDigits digits → byte ∷ bytes ≡ sign_text sign ++ digits → sign ≡ Unsigned → ⊥
    none sign digits are is e =
        let here : digits ≡ byte ∷ bytes = sym (is ∙ ap (λ s. sign_text s ++ digits) e) in
        sign_no_digit byte signs (All-head IsAsciiDigit byte bytes (subst AreDigits here are))

exponent_is : (text : List ℕ) (power : ℤ) → exponent_of text ≡ Some power → ExponentIs text power
unfolding exponent_of
exponent_is [] power h = record { exponent = Absent; right = tt; text_is = refl; value = cc }
exponent_is (byte ∷ bytes) power h = by_byte byte bytes power (is_marker byte) (is_sign byte) refl refl h
  where
    by_byte : (byte : ℕ) (bytes : List ℕ) (power : ℤ) (marker sign : Bool) → is_marker byte ≡ marker → is_sign byte ≡ sign → cond marker (power_of bytes) (cond sign (power_of (byte ∷ bytes)) None) ≡ Some power → ExponentIs (byte ∷ bytes) power
    by_byte byte bytes power true sign m s h =
        let p = power_is bytes power h in
        record { exponent = Lettered byte p.sign p.digits; right = (m, p.few); text_is = ap (λ bs. byte ∷ bs) p.text_is; value = p.value }
    by_byte byte bytes power false true m s h = bare_is byte bytes power s (power_is (byte ∷ bytes) power h)
    by_byte byte bytes power false false m s h = absurd (cc)

-- what is read is spelled
not_both : {X : Type 0} (b : Bool) (o : Option X) (x : X) → cond b None o ≡ Some x → (b ≡ false) × (o ≡ Some x)
not_both true o x h = absurd (cc)
not_both false o x h = (refl, h)

some_counted : (m n : ℕ) → ((m == 0) && (n == 0)) ≡ false → 1 ≤ m + n
some_counted m n h = grind (arith, nat_tests)

pub decimal_spelled : (text : List ℕ) (decimal : Decimal) → decimal_of text ≡ Some decimal → Spells text decimal
decimal_spelled text decimal h =
    let sign = sign_of text in
    let whole = digits_of sign.1 in
    let fraction = fraction_of whole.1 in
    let read = not_both ((length whole.0 == 0) && (length fraction.0 == 0)) (option_map (composed sign.0 whole.0 fraction.0) (exponent_of fraction.1)) decimal (sym (decimal_of-is text) ∙ h) in
    let power = map_some (composed sign.0 whole.0 fraction.0) (exponent_of fraction.1) decimal read.1 in
    let s = sign_is text in
    let f = fraction_is whole.1 in
    let e = exponent_is fraction.1 power.0 power.1 in
    record {
      spelling = record { sign = s.sign; whole = whole.0; fraction = f.fraction; exponent = e.exponent };
      right = record {
        whole = digits_in_front sign.1;
        fraction = subst AreDigits (sym f.digits) f.are;
        some = omega (arith, some_counted (length whole.0) (length fraction.0) read.0, ap length f.digits);
        exponent = e.right;
      };
      written =
          s.text_is
          ∙ ap (λ t. sign_text s.sign ++ t) (digits_is sign.1 ∙ ap (λ t. whole.0 ++ t) (f.text_is ∙ ap (λ t. fraction_text f.fraction ++ t) e.text_is));
      meant =
          sym power.2
          ∙ ap (λ n. composed n whole.0 fraction.0 power.0) (sym s.minus)
          ∙ ap (λ ds. composed (is_minus s.sign) whole.0 ds power.0) (sym f.digits)
          ∙ ap (composed (is_minus s.sign) whole.0 (fraction_digits f.fraction)) (sym e.value);
    }

-- a spelled decimal is the one that is read, so a text spells one at most
pub decimal_read : (text : List ℕ) (decimal : Decimal) → Spells text decimal → decimal_of text ≡ Some decimal
decimal_read text decimal h = ap decimal_of h.written ∙ decimal_of-text h.spelling h.right ∙ ap Some (sym h.meant)
