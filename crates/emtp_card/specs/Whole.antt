-- Whole numbers of fields.
use Rattle.std.specs.Prelude.{ℕ, nat_lt, ◌==◌, ◌^◌, ℤ, unsigned_abs, Bool, ◌&&◌, not, List, length, Option, Result, Ok, Err, if◌then◌else◌}
use Rattle.std.specs.Char.{is_ascii_digit}
use Rattle.std.specs.List.{list_all}
use Rattle.emtp_card.specs.Decimal.{signed, number_of}
use Rattle.emtp_card.specs.Numeral.{sign_of}
use Rattle.emtp_card.specs.Number.{unless_blank}
use Rattle.emtp_card.specs.Field.{field_of}
use Rattle.emtp_card.specs.declared.reason.Why.{Why}
use Rattle.emtp_card.specs.declared.reason.Why.TheVariants.{NotWhole, OutOfUnitRange}

-- at least one digit, and nothing else
abbrev pub all_digits : List ℕ → Bool
all_digits text = not (length text == 0) && list_all is_ascii_digit text

-- a whole number of a magnitude up to 10^9
abbrev pub in_billion : ℤ → Result ℤ Why
in_billion value = if nat_lt (10 ^ 9) (unsigned_abs value) then Err OutOfUnitRange else Ok value

-- an optional sign and digits
unfoldable pub whole_in : List ℕ → Result ℤ Why
whole_in text =
    if all_digits (sign_of text).1 then in_billion (signed (sign_of text).0 (number_of (sign_of text).1))
    else Err NotWhole

-- a field that holds a whole number
unfoldable pub whole_field : List ℕ → ℕ → ℕ → Result (Option ℤ) Why
whole_field line first last = unless_blank (field_of line first last) (whole_in (field_of line first last))
