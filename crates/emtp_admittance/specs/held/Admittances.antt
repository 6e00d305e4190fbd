-- Beside `Admittances`: what values hold for their proofs, and what premises say. No clause of the program reaches it.
use Rattle.std.specs.Prelude.{◌≤◌, unsigned_abs}
use Rattle.emtp_fix.specs.declared.limit.TheConstants.{LARGEST_ENTRY}
use Rattle.emtp_admittance.specs.declared.admittance.Admittance.{Admittance}
use Rattle.emtp_admittance.specs.declared.admittance.TwoPort.{TwoPort}

-- both parts are in range
pub record IsSmallAdmittance (y : Admittance) : Type 0 where
  pub conductance : unsigned_abs y.conductance ≤ LARGEST_ENTRY
  pub susceptance : unsigned_abs y.susceptance ≤ LARGEST_ENTRY

pub record IsSmallPort (y : TwoPort) : Type 0 where
  pub own : IsSmallAdmittance y.own
  pub other : IsSmallAdmittance y.other
