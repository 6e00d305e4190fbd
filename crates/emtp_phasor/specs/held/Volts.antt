-- Beside `Volts`: what values hold for their proofs, and what premises say. No clause of the program reaches it.
use Rattle.std.specs.Prelude.{unsigned_abs, ◌≤◌}
use Rattle.emtp_fix.specs.declared.limit.TheConstants.{LARGEST_VALUE}
use Rattle.emtp_phasor.specs.declared.phasor.Phasor.{Phasor}

-- both parts are in range
pub record IsVolt (v : Phasor) : Type 0 where
  pub re : unsigned_abs v.re ≤ LARGEST_VALUE
  pub im : unsigned_abs v.im ≤ LARGEST_VALUE
