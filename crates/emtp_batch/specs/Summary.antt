-- The summary of a batch: a line a row, and a line an analog channel.
use Rattle.std.specs.Prelude.{ℕ, zero, suc, ◌+◌, ℤ, pos, length, List, [], ◌∷◌, ◌++◌, fold, slice_index_or, position, Option, Some, None, unwrap_or, codes, decimal}
use Rattle.std.specs.Int.{int_max}
use Rattle.std.specs.Ordering.{int_eq}
use Rattle.emtp_batch.specs.declared.report.RowReport.{RowReport}
use Rattle.emtp_batch.specs.declared.summary.TheConstants.{PLACES}
use Rattle.emtp_fix.specs.Decimal.{fixed_text}
use Rattle.emtp_machine.specs.End.{cause_text}
use Rattle.emtp_machine.specs.declared.end.End.{End}

-- how the run of a row ended
unfoldable pub end_text : Option End → List ℕ
end_text None = codes "DONE"
end_text (Some end) = codes "ENDED STEP " ++ decimal end.step ++ codes " " ++ cause_text end.cause end.name end.measured

-- each peak after a blank
abbrev pub peaks_text : List ℤ → List ℕ
peaks_text [] = []
peaks_text (peak ∷ more) = codes " " ++ fixed_text peak PLACES ++ peaks_text more

-- the line of a row, whose number counts from 1
unfoldable pub row_line : ℕ → RowReport → List ℕ
row_line number report =
    codes "ROW " ++ decimal number ++ codes " " ++ end_text report.end ++ codes " PEAKS" ++ peaks_text report.peaks
    ++ codes "\n"

abbrev pub row_lines : ℕ → List RowReport → List ℕ
row_lines number [] = []
row_lines number (report ∷ more) = row_line number report ++ row_lines (number + 1) more

-- the peak of an analog channel in a row
abbrev pub peak_at : ℕ → RowReport → ℤ
peak_at channel report = slice_index_or report.peaks channel (pos 0)

-- the greatest peak of an analog channel in all rows
abbrev pub greatest_peak : ℕ → List RowReport → ℤ
greatest_peak channel reports = fold (λ greatest report. int_max greatest (peak_at channel report)) (pos 0) reports

-- the number of the first row in which an analog channel has this peak, from 1
abbrev pub first_row_with : ℕ → ℤ → List RowReport → ℕ
first_row_with channel peak reports = unwrap_or (position (λ report. int_eq (peak_at channel report) peak) reports) 0 + 1

-- the line of an analog channel, whose place counts from 0: its number, its greatest peak, and the first row that has it
unfoldable pub max_line : ℕ → ℤ → ℕ → List ℕ
max_line channel peak row =
    codes "MAX " ++ decimal (channel + 1) ++ codes " " ++ fixed_text peak PLACES ++ codes " ROW " ++ decimal row
    ++ codes "\n"

abbrev pub max_of : List RowReport → ℕ → List ℕ
max_of reports channel =
    max_line channel (greatest_peak channel reports) (first_row_with channel (greatest_peak channel reports) reports)

-- the lines of the first channels
abbrev pub max_lines : List RowReport → ℕ → List ℕ
max_lines reports zero = []
max_lines reports (suc n) = max_lines reports n ++ max_of reports n

-- how many analog channels the reports are of
abbrev pub analog_count : List RowReport → ℕ
analog_count [] = 0
analog_count (report ∷ more) = length report.peaks

-- the summary of all rows
unfoldable pub batch_text : List RowReport → List ℕ
batch_text reports = row_lines 1 reports ++ max_lines reports (analog_count reports)
