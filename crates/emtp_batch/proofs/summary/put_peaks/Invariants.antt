use Rattle.std.proofs.Common.{◌≡◌, ◌++◌, drop}
use Rattle.emtp_batch.specs.Summary.{peaks_text}
use Rattle.emtp_batch.proofs.summary.put_peaks.Given as goal

-- the peaks so far and those that are left are all peaks
abbrev pub invariant-loop-peak : goal.invariant-loop-peak
invariant-loop-peak l = l.text.items ++ peaks_text (drop l.peak-index l.peaks) ≡ l.initial.text.items ++ peaks_text l.peaks
