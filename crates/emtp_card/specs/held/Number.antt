-- Beside `Number`: what values hold for their proofs, and what premises say. No clause of the program reaches it.
use Rattle.std.specs.Prelude.{◌≡◌, ◌≤◌, ℤ, pos, neg_ℤ, ◌<ℤ◌, ◌≤ℤ◌, unsigned_abs, Result, Ok, Err}
use Rattle.emtp_card.specs.declared.reason.Why.{Why}
use Rattle.emtp_card.specs.declared.rounding.TheConstants.{MOST}

-- a value lies in a range, both ends of which belong to it
pub record IsWithin (low high value : ℤ) : Type 0 where
  pub least : low ≤ℤ value
  pub most : value ≤ℤ high

-- what the code reads of a value is the value, or beyond the greatest limit on the value's side
pub record StandsFor (read value : ℤ) : Type 0 where
  pub exact : unsigned_abs value ≤ MOST → read ≡ value
  pub above : pos MOST <ℤ value → pos MOST <ℤ read
  pub below : value <ℤ neg_ℤ (pos MOST) → read <ℤ neg_ℤ (pos MOST)

abbrev pub Reads : Result ℤ Why → Result ℤ Why → Type 0
Reads (Ok read) (Ok value) = StandsFor read value
Reads (Ok read) (Err why) = ⊥
Reads (Err cause) (Ok value) = ⊥
Reads (Err cause) (Err why) = cause ≡ why
