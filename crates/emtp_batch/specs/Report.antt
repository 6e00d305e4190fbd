-- What the run of a row gives.
use Rattle.std.specs.Prelude.{ℕ, ◌+◌, ℤ, pos, List, [], ◌∷◌, length, map, if◌then◌else◌}
use Rattle.emtp_case.specs.Channel.{is_status}
use Rattle.emtp_case.specs.declared.case.Parts.{Parts}
use Rattle.emtp_case.specs.declared.channel.Channel.{Channel}
use Rattle.emtp_machine.specs.History.{history, samples}
use Rattle.emtp_machine.specs.Samples.{greatest}
use Rattle.emtp_batch.specs.Altered.{altered}
use Rattle.emtp_batch.specs.declared.report.RowReport.{RowReport}
use Rattle.emtp_batch.specs.declared.table.Row.{Row}

-- the greatest magnitude in the samples of the channel at a place
abbrev pub peak_of_channel : List (List ℤ) → ℕ → ℤ
peak_of_channel rows place = pos (greatest rows place (length rows))

-- the peaks, one an analog channel, of channels that begin at a place
abbrev pub peaks_from : List (List ℤ) → ℕ → List Channel → List ℤ
peaks_from rows place [] = []
peaks_from rows place (channel ∷ more) =
    if is_status channel then peaks_from rows (place + 1) more
    else peak_of_channel rows place ∷ peaks_from rows (place + 1) more

abbrev pub peaks_of : Parts → List (List ℤ) → List ℤ
peaks_of case rows = peaks_from rows 0 case.channels

-- the end of a case's history, if it has one, and the peaks of its samples
unfoldable pub report_of : Parts → RowReport
report_of case = record { end = (history case).end; peaks = peaks_of case (samples case (history case)) }

-- each row's report is that of its altered case alone
abbrev pub reports_of : Parts → List Row → List RowReport
reports_of case rows = map (λ row. report_of (altered case row)) rows
