-- Output cards of the control: the fields, and the card.
use Rattle.std.specs.Prelude.{ℕ, ℤ, pos, List, Option, Some, None, Result, Ok, Err, if◌then◌else◌}
use Rattle.std.specs.Ordering.{int_eq}
use Rattle.emtp_card.specs.Whole.{whole_field}
use Rattle.emtp_card.specs.declared.fault.Fault.{Fault}
use Rattle.emtp_card.specs.declared.reason.Bad.{Bad}
use Rattle.emtp_card.specs.declared.reason.Why.{Why}
use Rattle.emtp_card.specs.declared.reason.Why.TheVariants.{BadType}
use Rattle.emtp_netcards.specs.OutputCard.{name_list}
use Rattle.emtp_netcards.specs.Reading.{◌>>=◌, both, card_on, in_column}

-- columns 1 and 2: a blank or 0, since no mark asks for all variables
abbrev pub no_mark : ℤ → Result (Unit {0}) Why
no_mark n = if int_eq n (pos 0) then Ok tt else Err BadType

abbrev pub no_mark_by : Result (Option ℤ) Why → Result (Unit {0}) Why
no_mark_by (Ok None) = Ok tt
no_mark_by (Ok (Some n)) = no_mark n
no_mark_by (Err why) = Err BadType

abbrev pub no_mark_field : List ℕ → Result (Unit {0}) Why
no_mark_field line = no_mark_by (whole_field line 1 2)

unfoldable pub fields_of : List ℕ → Result (List (Option (List ℕ))) Fault
fields_of line = do
  (mark, names) ← both (in_column 1 (no_mark_field line)) (name_list line)
  Ok names

unfoldable pub tacs_output_card : ℕ → List ℕ → Result (List (Option (List ℕ))) Bad
tacs_output_card number line = card_on number line (fields_of line)
