-- The fault of a limit by count that is exceeded.
use Rattle.std.specs.Prelude.{ℕ, Option, Some, None, Bool, if◌then◌else◌}
use Rattle.emtp_card.specs.declared.fault.Fault.{Fault}
use Rattle.emtp_card.specs.declared.reason.Why.TheVariants.{TooMany}

-- a limit by count is exceeded, at this column
abbrev pub too_many : Bool → ℕ → Option Fault
too_many is column = if is then Some (record { column = column; why = TooMany }) else None
