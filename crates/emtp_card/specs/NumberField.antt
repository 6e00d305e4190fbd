-- What a number field of a card says: its number, or its fault in its first column.
use Rattle.std.specs.Prelude.{ℕ, ℤ, List, Option, Result}
use Rattle.emtp_card.specs.Fault.{filled_with, in_column, required}
use Rattle.emtp_card.specs.Number.{held_field, number_field}
use Rattle.emtp_card.specs.declared.fault.Fault.{Fault}
use Rattle.emtp_card.specs.declared.number_field.NumberField.{NumberField}

abbrev pub number_of : NumberField → List ℕ → Result (Option ℤ) Fault
number_of f line = in_column f.first (number_field line f.first f.last f.scale f.low f.high)

-- a blank means this value
abbrev pub number_or : NumberField → ℤ → List ℕ → Result ℤ Fault
number_or f blank line = in_column f.first (filled_with blank (number_field line f.first f.last f.scale f.low f.high))

-- it can't be blank
abbrev pub required_of : NumberField → List ℕ → Result ℤ Fault
required_of f line = in_column f.first (required (number_field line f.first f.last f.scale f.low f.high))

-- held to its range
abbrev pub held_of : NumberField → List ℕ → Result (Option ℤ) Fault
held_of f line = in_column f.first (held_field line f.first f.last f.scale f.low f.high)

-- held to its range, where a blank means this value
abbrev pub held_or : NumberField → ℤ → List ℕ → Result ℤ Fault
held_or f blank line = in_column f.first (filled_with blank (held_field line f.first f.last f.scale f.low f.high))
