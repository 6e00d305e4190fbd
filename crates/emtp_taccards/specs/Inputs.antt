-- The five signed inputs of a block or a device.
use Rattle.std.specs.Prelude.{ℕ, ◌+◌, ◌==◌, Bool, true, false, List, [], ◌∷◌, Option, Some, None, Result, Ok, Err, if◌then◌else◌}
use Rattle.emtp_card.specs.Field.{byte_in}
use Rattle.emtp_card.specs.Name.{name_field}
use Rattle.emtp_card.specs.declared.fault.Fault.{Fault}
use Rattle.emtp_card.specs.declared.reason.Why.{Why}
use Rattle.emtp_card.specs.declared.reason.Why.TheVariants.{BadType}
use Rattle.emtp_netcards.specs.Reading.{◌>>=◌, both, in_column}

-- whether a sign is a minus: a blank and + aren't
abbrev pub is_minus : ℕ → Result Bool Why
is_minus byte = if byte == 32 then Ok false else if byte == 43 then Ok false else if byte == 45 then Ok true else Err BadType

abbrev pub minus_field : List ℕ → ℕ → Result Bool Why
minus_field line column = is_minus (byte_in line column)

-- an input without a name is none
abbrev pub signed_name : Bool → Option (List ℕ) → Option (Bool × List ℕ)
signed_name minus (Some name) = Some (minus, name)
signed_name minus None = None

-- the input whose sign stands in this column, and its name in the six columns after it; a sign is judged also where the name is blank
unfoldable pub input : List ℕ → ℕ → Result (Option (Bool × List ℕ)) Fault
input line column = do
  (minus, name) ← both (in_column column (minus_field line column)) (in_column (column + 1) (name_field line (column + 1)))
  Ok (signed_name minus name)

-- the first four
abbrev pub Four : Type 0
Four = (Option (Bool × List ℕ) × Option (Bool × List ℕ)) × (Option (Bool × List ℕ) × Option (Bool × List ℕ))

unfoldable pub four_inputs : List ℕ → Result Four Fault
four_inputs line = both (both (input line 11) (input line 19)) (both (input line 27) (input line 35))

unfoldable pub inputs : List ℕ → Result (List (Option (Bool × List ℕ))) Fault
inputs line = do
  (((a, b), (c, d)), e) ← both (four_inputs line) (input line 43)
  Ok (a ∷ b ∷ c ∷ d ∷ e ∷ [])
