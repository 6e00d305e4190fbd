-- A series branch whose two reactances are equal.
use Rattle.std.specs.Prelude.{ℤ, pos, ◌*ℤ◌}
use Rattle.emtp_fix.specs.Rounding.{near}
use Rattle.emtp_fix.specs.declared.limit.TheConstants.{ATTO}
use Rattle.emtp_admittance.specs.Impedance.{squared}
use Rattle.emtp_admittance.specs.declared.admittance.Admittance.{Admittance}

-- 1 / R, as R / R²
abbrev pub resistance_alone : ℤ → Admittance
resistance_alone r = record { conductance = near (r *ℤ ATTO) (squared r (pos 0)); susceptance = pos 0 }
