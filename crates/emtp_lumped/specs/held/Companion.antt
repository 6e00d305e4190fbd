-- Beside `Companion`: what values hold for their proofs, and what premises say. No clause of the program reaches it.
use Rattle.std.specs.Prelude.{◌≡◌, pos}
use Rattle.emtp_case.specs.held.Range.{IsBetween}
use Rattle.emtp_fix.specs.declared.limit.TheConstants.{LARGEST_ENTRY, LARGEST_IMPEDANCE}
use Rattle.emtp_lumped.specs.declared.companion.Companion.{Companion}

-- the ranges of the numbers of a companion
pub record IsCompanion (c : Companion) : Type 0 where
  pub conductance : IsBetween 0 LARGEST_ENTRY c.conductance
  pub inductor : IsBetween 0 LARGEST_IMPEDANCE c.inductor
  pub capacitor : IsBetween 0 LARGEST_IMPEDANCE c.capacitor

-- a branch without inductance and capacitance
pub record IsResistor (c : Companion) : Type 0 where
  pub no_inductor : c.inductor ≡ pos 0
  pub no_capacitor : c.capacitor ≡ pos 0
