-- Beside `Step`: what values hold for their proofs, and what premises say. No clause of the program reaches it.
use Rattle.std.specs.Prelude.{◌^◌, ◌≤◌, unsigned_abs}
use Rattle.emtp_fix.specs.declared.limit.TheConstants.{LARGEST_VALUE}
use Rattle.emtp_pseudo.specs.declared.moment.Moment.{Moment}

-- the ranges of what a record says of a branch
pub record IsMoment (m : Moment) : Type 0 where
  pub current : unsigned_abs m.state.current ≤ LARGEST_VALUE
  pub segment : unsigned_abs m.state.segment ≤ 63
  pub flux : unsigned_abs m.state.flux ≤ LARGEST_VALUE
  pub voltage : unsigned_abs m.voltage ≤ 2 ^ 64
