-- The faults of one card, and the least of them.
use Rattle.std.specs.Prelude.{ℕ, ◌==◌, nat_lt, Bool, ◌||◌, ◌&&◌, List, fold, Option, Some, None, option_map, Result, Ok, Err, if◌then◌else◌}
use Rattle.emtp_card.specs.Lines.{fault_of_line}
use Rattle.emtp_card.specs.Reason.{reason_number}
use Rattle.emtp_card.specs.declared.fault.Fault.{Fault}
use Rattle.emtp_card.specs.declared.reason.Bad.{Bad}
use Rattle.emtp_card.specs.declared.reason.Why.{Why}
use Rattle.emtp_card.specs.declared.reason.Why.TheVariants.{OutOfUnitRange}

-- by the lesser column, and there by the lesser number
abbrev pub comes_before : Fault → Fault → Bool
comes_before a b = nat_lt a.column b.column || ((a.column == b.column) && nat_lt (reason_number a.why) (reason_number b.why))

-- the lesser of two faults, where they are there
abbrev pub lesser : Option Fault → Option Fault → Option Fault
lesser None b = b
lesser (Some a) None = Some a
lesser (Some a) (Some b) = if comes_before b a then Some b else Some a

-- the least of the faults that are there
unfoldable pub least : List (Option Fault) → Option Fault
least faults = fold lesser None faults

-- a field where blank means this value
abbrev pub filled_with : {A : Type 0} → A → Result (Option A) Why → Result A Why
filled_with blank (Ok None) = Ok blank
filled_with blank (Ok (Some x)) = Ok x
filled_with blank (Err why) = Err why

-- a field that can't be blank
abbrev pub required : {A : Type 0} → Result (Option A) Why → Result A Why
required (Ok None) = Err OutOfUnitRange
required (Ok (Some x)) = Ok x
required (Err why) = Err why

-- a field, its fault in its first column
abbrev pub in_column : {A : Type 0} → ℕ → Result A Why → Result A Fault
in_column column (Ok x) = Ok x
in_column column (Err why) = Err (record { column = column; why = why })

-- the refusal of a fault on a line
abbrev pub bad_at : ℕ → Fault → Bad
bad_at line fault = record { line = line; column = fault.column; why = fault.why }

-- a fault of the bytes decides first, and then the least of the fields and rules
abbrev pub judge_by : ℕ → Option (ℕ × Why) → Option Fault → Option Bad
judge_by number (Some f) fields = Some (record { line = number; column = f.0; why = f.1 })
judge_by number None fields = option_map (bad_at number) fields

-- what refuses the card on a line, given the least fault of its fields and rules
abbrev pub judge : ℕ → List ℕ → Option Fault → Option Bad
judge number line fields = judge_by number (fault_of_line line) fields
