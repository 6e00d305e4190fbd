-- What is true of every batch, in the field's words.
use Rattle.std.specs.Prelude.{◌≡◌, ◌≢◌, ℕ, ◌+◌, ◌<◌, ◌≤◌, ℤ, pos, ◌≤ℤ◌, List, [], ◌∷◌, length, All, Some, option_map, slice_get, unsigned_abs, codes}
use Rattle.emtp_case.specs.declared.switch.Times.{Times}
use Rattle.emtp_fix.specs.declared.limit.TheConstants.{LARGEST_VALUE}
use Rattle.emtp_batch.specs.Summary.{peak_at}
use Rattle.emtp_batch.specs.declared.report.RowReport.{RowReport}

-- no row has a greater peak of an analog channel, and the row with this number, from 1, is the first that has it
pub record IsGreatestPeak (channel : ℕ) (reports : List RowReport) (peak : ℤ) (row : ℕ) : Type 0 where
  pub none_above : All (λ report. peak_at channel report ≤ℤ peak) reports
  pub some : 1 ≤ row
  pub within : row ≤ length reports
  pub has : (k : ℕ) → k + 1 ≡ row → option_map (peak_at channel) (slice_get reports k) ≡ Some peak
  pub first : (k : ℕ) → k + 1 < row → option_map (peak_at channel) (slice_get reports k) ≢ Some peak

-- a magnitude in the range of voltages, currents and values of the control
pub record IsPeak (peak : ℤ) : Type 0 where
  pub low : pos 0 ≤ℤ peak
  pub high : unsigned_abs peak ≤ LARGEST_VALUE

-- two stars a time switch
abbrev pub stars : List Times → List (List ℕ)
stars [] = []
stars (card ∷ cards) = codes "*" ∷ codes "*" ∷ stars cards
