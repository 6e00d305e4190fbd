-- Block cards: the fields and rules, and the card.
use Rattle.std.specs.Prelude.{ℕ, ℤ, pos, int_lt, unsigned_abs, Bool, false, ◌||◌, List, Option, Some, None, Result, Ok, Err, if◌then◌else◌}
use Rattle.std.specs.Ordering.{int_eq}
use Rattle.emtp_card.specs.Name.{name_field}
use Rattle.emtp_card.specs.NumberField.{number_of, number_or}
use Rattle.emtp_card.specs.Whole.{whole_field}
use Rattle.emtp_card.specs.declared.fault.Fault.{Fault}
use Rattle.emtp_card.specs.declared.reason.Bad.{Bad}
use Rattle.emtp_card.specs.declared.reason.Why.{Why}
use Rattle.emtp_card.specs.declared.reason.Why.TheVariants.{OutOfUnitRange}
use Rattle.emtp_fix.specs.declared.limit.TheConstants.{PICO}
use Rattle.emtp_netcards.specs.Fields.{needed}
use Rattle.emtp_netcards.specs.Reading.{◌>>=◌, both, card_on, in_column}
use Rattle.emtp_taccards.specs.Inputs.{inputs}
use Rattle.emtp_taccards.specs.declared.block_card.BlockCard.{BlockCard}
use Rattle.emtp_taccards.specs.declared.block_card.TheConstants.{GAIN, HIGH, LOW}

-- columns 1 and 2: the order
abbrev pub order_of : ℤ → Result ℕ Why
order_of n = if int_lt n (pos 0) || int_lt (pos 7) n then Err OutOfUnitRange else Ok (unsigned_abs n)

abbrev pub order_by : Result (Option ℤ) Why → Result ℕ Why
order_by (Ok None) = Ok 0
order_by (Ok (Some n)) = order_of n
order_by (Err why) = Err why

abbrev pub order_field : List ℕ → Result ℕ Why
order_field line = order_by (whole_field line 1 2)

unfoldable pub order_and_name : List ℕ → Result (ℕ × List ℕ) Fault
order_and_name line = both (in_column 1 (order_field line)) (in_column 3 (needed (name_field line 3)))

-- columns 51 to 56: the gain; a blank and 0 mean 1
abbrev pub gain_by : Result ℤ Fault → Result ℤ Fault
gain_by (Ok gain) = Ok (if int_eq gain (pos 0) then PICO else gain)
gain_by (Err fault) = Err fault

abbrev pub gain_field : List ℕ → Result ℤ Fault
gain_field line = gain_by (number_or GAIN (pos 0) line)

-- the fixed limits, low and high, of which a blank means none, and those that a variable is
abbrev pub Limits : Type 0
Limits = (Option ℤ × Option ℤ) × (Option (List ℕ) × Option (List ℕ))

-- two fixed limits cross, of which none is replaced by a named one
abbrev pub are_crossed : Option ℤ → Option ℤ → Option (List ℕ) → Option (List ℕ) → Bool
are_crossed (Some low) (Some high) None None = int_lt high low
are_crossed (Some low) (Some high) None (Some name) = false
are_crossed (Some low) (Some high) (Some name) other = false
are_crossed (Some low) None name other = false
are_crossed None high name other = false

abbrev pub in_order : Option ℤ → Option ℤ → Option (List ℕ) → Option (List ℕ) → Result Limits Fault
in_order low high low_name high_name =
    if are_crossed low high low_name high_name then Err (record { column = 57; why = OutOfUnitRange })
    else Ok ((low, high), (low_name, high_name))

abbrev pub limit_names : List ℕ → Result (Option (List ℕ) × Option (List ℕ)) Fault
limit_names line = both (in_column 69 (name_field line 69)) (in_column 75 (name_field line 75))

unfoldable pub limits_of : List ℕ → Result Limits Fault
limits_of line = do
  ((low, high), (low_name, high_name)) ← both (both (number_of LOW line) (number_of HIGH line)) (limit_names line)
  in_order low high low_name high_name

abbrev pub block_record : ℕ → ℕ × List ℕ → List (Option (Bool × List ℕ)) → ℤ → Limits → BlockCard
block_record number head inputs gain limits = record {
  line = number;
  name = head.1;
  order = head.0;
  inputs = inputs;
  gain = gain;
  low = limits.0.0;
  high = limits.0.1;
  low_name = limits.1.0;
  high_name = limits.1.1;
}

abbrev pub block_with : ℕ → Result (ℕ × List ℕ) Fault → Result (List (Option (Bool × List ℕ))) Fault → Result ℤ Fault
    → Result Limits Fault → Result BlockCard Fault
block_with number head inputs gain limits = do
  ((head, inputs), (gain, limits)) ← both (both head inputs) (both gain limits)
  Ok (block_record number head inputs gain limits)

-- the card
unfoldable pub fields_of : ℕ → List ℕ → Result BlockCard Fault
fields_of number line = block_with number (order_and_name line) (inputs line) (gain_field line) (limits_of line)

unfoldable pub block_card : ℕ → List ℕ → Result BlockCard Bad
block_card number line = card_on number line (fields_of number line)
