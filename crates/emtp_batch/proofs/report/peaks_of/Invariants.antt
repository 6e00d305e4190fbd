use Rattle.std.proofs.Common.{◌≡◌, ◌++◌, drop}
use Rattle.emtp_batch.specs.Report.{peaks_from, peaks_of}
use Rattle.emtp_batch.proofs.report.peaks_of.Given as goal

-- the peaks so far and those of the channels that are left are all peaks
abbrev pub invariant-loop-place : goal.invariant-loop-place
invariant-loop-place l = l.peaks.items ++ peaks_from l.samples.rows l.place (drop l.place l.channels) ≡ peaks_of l.case.parts l.samples.rows
