-- The companion of a series branch.
use Rattle.std.specs.Prelude.{ℤ}
use Rattle.emtp_case.specs.Branch.{inductor_impedance, capacitor_impedance, series_impedance}
use Rattle.emtp_case.specs.declared.branch.Lumped.{Lumped}
use Rattle.emtp_fix.specs.Rounding.{near}
use Rattle.emtp_fix.specs.declared.limit.TheConstants.{ATTO}
use Rattle.emtp_lumped.specs.declared.companion.Companion.{Companion}

-- g = 1/Z, zL and zC
abbrev pub companion_of : ℤ → Lumped → Companion
companion_of dt b = record {
  conductance = near ATTO (series_impedance dt b.r b.l b.c);
  inductor = inductor_impedance dt b.l;
  capacitor = capacitor_impedance dt b.c;
}
