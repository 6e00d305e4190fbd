-- Beside `Row`: what values hold for their proofs, and what premises say. No clause of the program reaches it.
use Rattle.std.specs.Prelude.{◌≡◌, ℕ, length, All}
use Rattle.emtp_case.specs.held.Switch.{HasTimes}
use Rattle.emtp_case.specs.declared.switch.Times.{Times}
use Rattle.emtp_batch.specs.declared.table.Row.{Row}

-- a closing and an opening time in range
abbrev pub AreTimesInRange : Times → Type 0
AreTimesInRange t = HasTimes t.close t.open_at

-- a row for so many time switches: one entry each, in range
pub record IsRowFor (count : ℕ) (row : Row) : Type 0 where
  pub count_is : length row.times ≡ count
  pub in_range : All AreTimesInRange row.times
