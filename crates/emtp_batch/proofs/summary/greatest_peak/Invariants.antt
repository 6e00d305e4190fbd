use Rattle.std.proofs.Common.{◌≡◌, take}
use Rattle.emtp_batch.specs.Summary.{greatest_peak}
use Rattle.emtp_batch.proofs.summary.greatest_peak.Given as goal

abbrev pub invariant-loop-report : goal.invariant-loop-report
invariant-loop-report l = l.greatest ≡ greatest_peak l.channel (take l.report-index l.reports)
