-- The ranges of a fictitious resistance. No clause of the program reaches it.
use Rattle.std.specs.Prelude.{◌≤◌, ◌*◌, ◌^◌, unsigned_abs}
use Rattle.emtp_acting.specs.declared.fictitious.Fictitious.{Fictitious}
use Rattle.emtp_case.specs.held.Range.{IsBetween}
use Rattle.emtp_fix.specs.declared.limit.TheConstants.{LARGEST_ENTRY}

pub record IsFictitious (f : Fictitious) : Type 0 where
  pub conducted : unsigned_abs f.conducted ≤ 5 * 10 ^ 14
  pub conductance : IsBetween 1000 LARGEST_ENTRY f.conductance
