-- Samples with all their digits: a line each, with a whole number a channel.
use Rattle.std.specs.Prelude.{ℕ, zero, suc, ℤ, List, ◌++◌, length, codes}
use Rattle.std.specs.Fmt.{signed_decimal}
use Rattle.emtp_comtrade.specs.Record.{joined}
use Rattle.emtp_machine.specs.Samples.{value_at}

-- the value of the channel at a place, after a blank but for the first
unfoldable pub value_text : ℕ → ℤ → List ℕ
value_text zero value = signed_decimal value
value_text (suc place) value = codes " " ++ signed_decimal value

-- the value of the channel at a place in a sample, as it stands in the sample's line
abbrev pub value_in_line : List (List ℤ) → ℕ → ℕ → List ℕ
value_in_line rows sample place = value_text place (value_at rows sample place)

-- the values of a sample of so many channels
abbrev pub sample_line : List (List ℤ) → ℕ → ℕ → List ℕ
sample_line rows channels sample = joined channels (value_in_line rows sample) ++ codes "\n"

-- a line a sample
abbrev pub sample_lines : List (List ℤ) → ℕ → List ℕ
sample_lines rows channels = joined (length rows) (sample_line rows channels)
