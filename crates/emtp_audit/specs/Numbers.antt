-- The numbers of a record, as another program may spell them.
use Rattle.std.specs.Prelude.{ℕ, nat_lt, ℤ, pos, List, length, Option, Some, None, Ok, Err, Result, option_map, if◌then◌else◌}
use Rattle.emtp_card.specs.Numeral.{few_digits, limited_whole}
use Rattle.emtp_card.specs.declared.reason.Why.{Why}
use Rattle.emtp_card.specs.Number.{read_number_of}

-- a whole number: an optional sign and one to nine digits
unfoldable pub whole_of : List ℕ → Option ℤ
whole_of text = limited_whole 9 text

-- a time stamp: one to ten digits
unfoldable pub stamp_of : List ℕ → Option ℤ
stamp_of text = option_map pos (few_digits 10 text)

abbrev pub found : Result ℤ Why → Option ℤ
found (Ok value) = Some value
found (Err why) = None

-- a decimal of at most 40 bytes, in a unit of 10^-scale and of limited magnitude
unfoldable pub decimal_in : ℤ → ℤ → List ℕ → Option ℤ
decimal_in scale limit text = if nat_lt 40 (length text) then None else found (read_number_of text scale limit)
