-- Names of fields.
use Rattle.std.specs.Prelude.{ℕ, ◌+◌, ◌==◌, Bool, List, [], ◌∷◌, Option, Some, None, Result, Ok, Err, if◌then◌else◌}
use Rattle.std.specs.List.{list_any}
use Rattle.emtp_card.specs.Field.{columns, field_of}
use Rattle.emtp_card.specs.declared.reason.Why.{Why}
use Rattle.emtp_card.specs.declared.reason.Why.TheVariants.{BadName}

abbrev pub is_comma : ℕ → Bool
is_comma byte = byte == 44

-- a name, and none where the text is empty
abbrev pub named : List ℕ → Option (List ℕ)
named [] = None
named (byte ∷ bytes) = Some (byte ∷ bytes)

-- the name in six columns: their bytes without outer blanks, none of them a comma
unfoldable pub name_field : List ℕ → ℕ → Result (Option (List ℕ)) Why
name_field line first =
    if list_any is_comma (columns line first (first + 5)) then Err BadName
    else Ok (named (field_of line first (first + 5)))
