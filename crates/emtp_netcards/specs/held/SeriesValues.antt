-- Beside `SeriesValues`: what values hold for their proofs, and what premises say. No clause of the program reaches it.
use Rattle.std.specs.Prelude.{ℤ}
use Rattle.emtp_case.specs.held.Branch.{HasSeriesNumbers}
use Rattle.emtp_netcards.specs.declared.series_values.SeriesValues.{SeriesValues}

-- the numbers of a series branch
abbrev pub IsSeries : ℤ → SeriesValues → Type 0
IsSeries dt s = HasSeriesNumbers dt s.r s.l s.c
