-- How a number may be spelled, and the decimal that a spelling means.
use Rattle.std.specs.Prelude.{◌≡◌, ◌≢◌, ℕ, ◌+◌, ◌≤◌, ℤ, pos, Bool, true, false, IsTrue, List, [], ◌∷◌, ◌++◌, length, Option, Some, None}
use Rattle.emtp_card.specs.Decimal.{Decimal, signed, number_of}
use Rattle.emtp_card.specs.Numeral.{composed, is_marker}
use Rattle.emtp_card.specs.held.Numeral.{AreDigits}

-- a sign, `+` or `-`, or none
pub data Sign : Type 0 where
  Unsigned : Sign
  Plus : Sign
  Minus : Sign

abbrev pub sign_text : Sign → List ℕ
sign_text Unsigned = []
sign_text Plus = 43 ∷ []
sign_text Minus = 45 ∷ []

abbrev pub is_minus : Sign → Bool
is_minus Unsigned = false
is_minus Plus = false
is_minus Minus = true

-- a point, `.`, and digits, or neither
abbrev pub fraction_text : Option (List ℕ) → List ℕ
fraction_text None = []
fraction_text (Some digits) = 46 ∷ digits

abbrev pub fraction_digits : Option (List ℕ) → List ℕ
fraction_digits None = []
fraction_digits (Some digits) = digits

-- an exponent: none; after a letter, with a sign or without; or with no letter, and then with a sign
pub data Exponent : Type 0 where
  Absent : Exponent
  Lettered : ℕ → Sign → List ℕ → Exponent
  Bare : Sign → List ℕ → Exponent

abbrev pub exponent_text : Exponent → List ℕ
exponent_text Absent = []
exponent_text (Lettered letter sign digits) = letter ∷ (sign_text sign ++ digits)
exponent_text (Bare sign digits) = sign_text sign ++ digits

abbrev pub exponent_value : Exponent → ℤ
exponent_value Absent = pos 0
exponent_value (Lettered letter sign digits) = signed (is_minus sign) (number_of digits)
exponent_value (Bare sign digits) = signed (is_minus sign) (number_of digits)

-- one to three digits
pub record AreFewDigits (digits : List ℕ) : Type 0 where
  pub are : AreDigits digits
  pub some : 1 ≤ length digits
  pub few : length digits ≤ 3

abbrev pub IsExponent : Exponent → Type 0
IsExponent Absent = Unit {0}
IsExponent (Lettered letter sign digits) = IsTrue (is_marker letter) × AreFewDigits digits
IsExponent (Bare sign digits) = (sign ≢ Unsigned) × AreFewDigits digits

-- a number taken apart: sign, digits before the point, the point and the digits after it, exponent
pub record Spelling : Type 0 where
  pub sign : Sign
  pub whole : List ℕ
  pub fraction : Option (List ℕ)
  pub exponent : Exponent

-- at least one digit stands before or after the point
pub record IsSpelling (s : Spelling) : Type 0 where
  pub whole : AreDigits s.whole
  pub fraction : AreDigits (fraction_digits s.fraction)
  pub some : 1 ≤ length s.whole + length (fraction_digits s.fraction)
  pub exponent : IsExponent s.exponent

abbrev pub text_of : Spelling → List ℕ
text_of s = sign_text s.sign ++ (s.whole ++ (fraction_text s.fraction ++ exponent_text s.exponent))

abbrev pub decimal_meant : Spelling → Decimal
decimal_meant s = composed (is_minus s.sign) s.whole (fraction_digits s.fraction) (exponent_value s.exponent)

-- the text spells the decimal
pub record Spells (text : List ℕ) (decimal : Decimal) : Type 0 where
  pub spelling : Spelling
  pub right : IsSpelling spelling
  pub written : text ≡ text_of spelling
  pub meant : decimal ≡ decimal_meant spelling
