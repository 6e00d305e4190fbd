-- Beside `Mode`: what values hold for their proofs, and what premises say. No clause of the program reaches it.
use Rattle.std.specs.Prelude.{◌^◌, ◌≤◌, ◌<ℤ◌, unsigned_abs}
use Rattle.emtp_case.specs.held.Range.{IsBetween}
use Rattle.emtp_fix.specs.declared.limit.TheConstants.{LARGEST_ENTRY}
use Rattle.emtp_line.specs.declared.mode.Mode.{Mode}

-- the ranges of these numbers
pub record IsMode (m : Mode) : Type 0 where
  pub conductance : IsBetween 0 LARGEST_ENTRY m.conductance
  pub attenuation : unsigned_abs m.attenuation ≤ 10 ^ 12
  pub far_share : IsBetween 0 (10 ^ 12) m.far_share
  pub near_share : IsBetween 0 (10 ^ 12) m.near_share
  pub some_steps : 1 ≤ m.steps
  pub few_steps : m.steps ≤ 10 ^ 15
  pub rest : IsBetween 0 (10 ^ 12) m.rest
  pub rest_below : m.rest <ℤ m.dt
  pub dt : IsBetween 1 (10 ^ 12) m.dt
