use Rattle.std.proofs.Common.{◌≡◌, All, take}
use Rattle.emtp_machine.specs.Laws.{EndsWithin, SamplesBalance}
use Rattle.emtp_batch.specs.Altered.{altered_cases}
use Rattle.emtp_batch.specs.held.Altered.{after_rows}
use Rattle.emtp_batch.specs.Report.{reports_of}
use Rattle.emtp_batch.proofs.report.batch.Given as goal

-- the reports so far are those of the rows so far, and the case has the times of the last of them
abbrev pub invariant-loop-row : goal.invariant-loop-row
invariant-loop-row l = record {
  reports : l.reports.items ≡ reports_of l.initial.case.parts (take l.row-index l.rows);
  balance : All SamplesBalance (altered_cases l.initial.case.parts (take l.row-index l.rows));
  names : All EndsWithin (altered_cases l.initial.case.parts (take l.row-index l.rows));
  case_is : l.case.parts ≡ after_rows l.initial.case.parts (take l.row-index l.rows);
}
