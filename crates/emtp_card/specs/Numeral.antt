-- How bytes are read as a number.
use Rattle.std.specs.Prelude.{ℕ, ◌==◌, nat_le, ℤ, pos, ◌-ℤ◌, Bool, true, false, ◌&&◌, ◌||◌, List, [], ◌∷◌, ◌++◌, length, drop, take_while, Option, Some, None, option_map, if◌then◌else◌}
use Rattle.std.specs.Char.{is_ascii_digit}
use Rattle.std.specs.List.{list_all}
use Rattle.emtp_card.specs.Decimal.{Decimal, signed, number_of}

-- a sign in front, `+` or `-`, or none: whether it is a minus, and what stands after it
abbrev pub sign_of : List ℕ → Bool × List ℕ
sign_of [] = (false, [])
sign_of (byte ∷ bytes) = if byte == 43 then (false, bytes) else if byte == 45 then (true, bytes) else (false, byte ∷ bytes)

-- the digits in front, and what stands after them
abbrev pub digits_of : List ℕ → List ℕ × List ℕ
digits_of bytes = (take_while is_ascii_digit bytes, drop (length (take_while is_ascii_digit bytes)) bytes)

-- the digits after a point, `.`, in front, and what stands after them; none where there is no point
abbrev pub fraction_of : List ℕ → List ℕ × List ℕ
fraction_of [] = ([], [])
fraction_of (byte ∷ bytes) = if byte == 46 then digits_of bytes else ([], byte ∷ bytes)

-- one digit to so many, and nothing else
abbrev pub few_digits : ℕ → List ℕ → Option ℕ
few_digits most bytes =
    if list_all is_ascii_digit bytes && (nat_le 1 (length bytes) && nat_le (length bytes) most)
    then Some (number_of bytes)
    else None

-- a sign or none, and one digit to so many
unfoldable pub limited_whole : ℕ → List ℕ → Option ℤ
limited_whole most bytes = option_map (signed (sign_of bytes).0) (few_digits most (sign_of bytes).1)

-- the power of an exponent has at most three digits
abbrev pub power_of : List ℕ → Option ℤ
power_of bytes = limited_whole 3 bytes

-- E, e, D or d
abbrev pub is_marker : ℕ → Bool
is_marker byte = ((byte == 69) || (byte == 101)) || ((byte == 68) || (byte == 100))

abbrev pub is_sign : ℕ → Bool
is_sign byte = (byte == 43) || (byte == 45)

-- the power of ten: nothing, a marker and a power, or a power that has a sign
unfoldable pub exponent_of : List ℕ → Option ℤ
exponent_of [] = Some (pos 0)
exponent_of (byte ∷ bytes) = if is_marker byte then power_of bytes else if is_sign byte then power_of (byte ∷ bytes) else None

-- a decimal of its parts; digits after the point lessen the power
abbrev pub composed : Bool → List ℕ → List ℕ → ℤ → Decimal
composed negative whole fraction exponent = record {
  negative = negative;
  digits = number_of (whole ++ fraction);
  power = exponent -ℤ pos (length fraction);
}

-- the decimal that a text spells, if it is a number
unfoldable pub decimal_of : List ℕ → Option Decimal
decimal_of text =
    let sign = sign_of text in
    let whole = digits_of sign.1 in
    let fraction = fraction_of whole.1 in
    if (length whole.0 == 0) && (length fraction.0 == 0) then None
    else option_map (composed sign.0 whole.0 fraction.0) (exponent_of fraction.1)
