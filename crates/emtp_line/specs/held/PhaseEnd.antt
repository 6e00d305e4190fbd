-- The numbers of three phases on the way, and those that a record keeps.
use Rattle.std.specs.Prelude.{◌≤◌, unsigned_abs, List, ℕ, ℤ}
use Rattle.emtp_case.specs.declared.branch.PhaseState.{PhaseState}
use Rattle.emtp_fix.specs.declared.limit.TheConstants.{LARGEST_VALUE}
use Rattle.emtp_line.specs.held.Held.{state_at}
use Rattle.emtp_line.specs.Phases.{of_phase}

-- each of three numbers is within m
pub record AreWithin (m : ℕ) (xs : List ℤ) : Type 0 where
  pub first : unsigned_abs (of_phase xs 0) ≤ m
  pub second : unsigned_abs (of_phase xs 1) ≤ m
  pub third : unsigned_abs (of_phase xs 2) ≤ m

-- the currents of a phase are in range
pub record IsSmall (s : PhaseState) : Type 0 where
  pub from_current : unsigned_abs s.from_current ≤ LARGEST_VALUE
  pub to_current : unsigned_abs s.to_current ≤ LARGEST_VALUE

pub record AreSmall (states : List PhaseState) : Type 0 where
  pub first : IsSmall (state_at states 0)
  pub second : IsSmall (state_at states 1)
  pub third : IsSmall (state_at states 2)
