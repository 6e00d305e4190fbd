-- Beside `Step`: what values hold for their proofs, and what premises say. No clause of the program reaches it.
use Rattle.std.specs.Prelude.{◌≡◌, ◌≤◌, unsigned_abs, pos, ℤ, Option, Some}
use Rattle.emtp_case.specs.declared.branch.LumpedState.{LumpedState}
use Rattle.emtp_fix.specs.Limit.{in_range, ◌>>=◌}
use Rattle.emtp_fix.specs.declared.limit.TheConstants.{LARGEST_VALUE}

-- the numbers that a record keeps of a branch are in range
pub record IsInRange (s : LumpedState) : Type 0 where
  pub current : unsigned_abs s.current ≤ LARGEST_VALUE
  pub inductor : unsigned_abs s.v_l ≤ LARGEST_VALUE
  pub capacitor : unsigned_abs s.v_c ≤ LARGEST_VALUE
  pub history : unsigned_abs s.history_voltage ≤ LARGEST_VALUE

-- nothing but the current is kept, as it is of a resistor from record 0 on
pub record HasNoHistory (s : LumpedState) : Type 0 where
  pub no_v_l : s.v_l ≡ pos 0
  pub no_v_c : s.v_c ≡ pos 0
  pub no_history : s.history_voltage ≡ pos 0

-- a current alone, where it is in range
abbrev pub current_alone : ℤ → Option LumpedState
current_alone i = in_range i >>= (λ i. Some (record { current = i; v_l = pos 0; v_c = pos 0; history_voltage = pos 0 }))
