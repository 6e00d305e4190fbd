-- A row of a batch, and the run of its case.
use Rattle.std.specs.Prelude.{◌≡◌, ◌++◌, ℕ, List, [], ◌∷◌, codes}
use Rattle.emtp_batch.specs.Report.{peaks_of}
use Rattle.emtp_batch.specs.Summary.{row_line}
use Rattle.emtp_batch.specs.declared.report.RowReport.{RowReport}
use Rattle.emtp_case.specs.declared.case.Parts.{Parts}
use Rattle.emtp_machine.specs.History.{history, samples}
use Rattle.emtp_run.specs.Outcome.{Outcome, ran, record_writes, summarised}
use Rattle.emtp_run.specs.Words.{BatchFiles, RunFiles}

abbrev pub batch_words : BatchFiles → List (List ℕ)
batch_words f = codes "batch" ∷ f.case ∷ f.times ∷ []

-- what the run of a case says in a row: its end, if it has one, and the peaks of its samples
abbrev pub report_of_run : Parts → RowReport
report_of_run case = record { end = (history case).end; peaks = peaks_of case (samples case (history case)) }

-- the summary has this line for the row with this number, from 1
pub record HasRowLine (number : ℕ) (report : RowReport) (o : Outcome) : Type 0 where
  pub front : List ℕ
  pub behind : List ℕ
  pub is : o ≡ summarised (front ++ row_line number report ++ behind)

-- the one outcome is that of the run of a case, with its record and its note; the other has a line with its end and its peaks
pub record IsRowOfRun (number : ℕ) (files : RunFiles) (case : Parts) (made batch : Outcome) : Type 0 where
  pub run : made ≡ ran case (record_writes files case (history case))
  pub row : HasRowLine number (report_of_run case) batch
