use Rattle.std.proofs.Common.{◌≡◌, ◌++◌}
use Rattle.emtp_batch.specs.Summary.{max_lines}
use Rattle.emtp_batch.proofs.summary.put_maxima.Given as goal

abbrev pub invariant-loop-channel : goal.invariant-loop-channel
invariant-loop-channel l = l.text.items ≡ l.initial.text.items ++ max_lines l.reports l.channel
