use Rattle.std.proofs.Common.{◌≡◌, ◌++◌}
use Rattle.emtp_comtrade.specs.Record.{joined}
use Rattle.emtp_assess.specs.SampleLines.{sample_line}
use Rattle.emtp_assess.proofs.sample_lines.put_samples.Given as goal

abbrev pub invariant-loop-sample : goal.invariant-loop-sample
invariant-loop-sample l = l.text.items ≡ l.initial.text.items ++ joined l.sample (sample_line l.samples.rows l.samples.channels)
