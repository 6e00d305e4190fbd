-- Frequencies.
use Rattle.std.specs.Prelude.{ℤ}
use Rattle.emtp_case.specs.held.Range.{IsBetween}
use Rattle.emtp_admittance.specs.declared.limit.TheConstants.{LARGEST_FREQUENCY}

-- a frequency of a steady state, in micro-hertz
abbrev pub IsFrequency : ℤ → Type 0
IsFrequency freq = IsBetween 1 LARGEST_FREQUENCY freq
