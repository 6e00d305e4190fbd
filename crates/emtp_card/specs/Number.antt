-- Numbers of fields: the value in its unit, and what its range makes of it.
use Rattle.std.specs.Prelude.{ℕ, nat_lt, ℤ, int_lt, unsigned_abs, ◌||◌, List, [], ◌∷◌, Option, Some, None, Result, Ok, Err, if◌then◌else◌}
use Rattle.std.specs.Int.{int_min, int_max}
use Rattle.emtp_card.specs.Decimal.{Decimal, value_in}
use Rattle.emtp_card.specs.Numeral.{decimal_of}
use Rattle.emtp_card.specs.Field.{field_of, trimmed}
use Rattle.emtp_card.specs.declared.reason.Why.{Why}
use Rattle.emtp_card.specs.declared.reason.Why.TheVariants.{NotANumber, OutOfUnitRange}

abbrev pub valued : ℤ → Option Decimal → Result ℤ Why
valued scale None = Err NotANumber
valued scale (Some decimal) = Ok (value_in scale decimal)

-- the value that a text spells, in a unit of 10^-scale
unfoldable pub number_in : ℤ → List ℕ → Result ℤ Why
number_in scale text = valued scale (decimal_of text)

-- a value that has to lie in a range
abbrev pub in_range : ℤ → ℤ → Result ℤ Why → Result ℤ Why
in_range low high (Ok value) = if int_lt value low || int_lt high value then Err OutOfUnitRange else Ok value
in_range low high (Err why) = Err why

-- a value that is held to the nearer end of a range that it lies outside
abbrev pub held_in : ℤ → ℤ → Result ℤ Why → Result ℤ Why
held_in low high (Ok value) = Ok (int_max low (int_min value high))
held_in low high (Err why) = Err why

-- a value whose magnitude has a limit
abbrev pub in_limit : ℤ → Result ℤ Why → Result ℤ Why
in_limit limit (Ok value) = if nat_lt (unsigned_abs limit) (unsigned_abs value) then Err OutOfUnitRange else Ok value
in_limit limit (Err why) = Err why

abbrev pub present : Result ℤ Why → Result (Option ℤ) Why
present (Ok value) = Ok (Some value)
present (Err why) = Err why

-- what is read of a text, and nothing where it is empty
abbrev pub unless_blank : List ℕ → Result ℤ Why → Result (Option ℤ) Why
unless_blank [] read = Ok None
unless_blank (byte ∷ bytes) read = present read

-- a number field, by its columns, its scale and its range
unfoldable pub number_field : List ℕ → ℕ → ℕ → ℤ → ℤ → ℤ → Result (Option ℤ) Why
number_field line first last scale low high =
    unless_blank (field_of line first last) (in_range low high (number_in scale (field_of line first last)))

-- a number field that is held to its range
unfoldable pub held_field : List ℕ → ℕ → ℕ → ℤ → ℤ → ℤ → Result (Option ℤ) Why
held_field line first last scale low high =
    unless_blank (field_of line first last) (held_in low high (number_in scale (field_of line first last)))

-- a text read as a number of any length
unfoldable pub read_number_of : List ℕ → ℤ → ℤ → Result ℤ Why
read_number_of text scale limit = in_limit limit (number_in scale (trimmed text))

-- the same, held to the nearer end of a range that the value lies outside
unfoldable pub held_number : List ℕ → ℤ → ℤ → ℤ → Result ℤ Why
held_number text scale low high = held_in low high (number_in scale (trimmed text))
