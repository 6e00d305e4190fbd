use Rattle.std.proofs.Common.{◌≡◌, ◌++◌}
use Rattle.emtp_comtrade.specs.Record.{joined}
use Rattle.emtp_assess.specs.SampleLines.{value_in_line}
use Rattle.emtp_assess.proofs.sample_lines.put_sample.Given as goal

abbrev pub invariant-loop-channel : goal.invariant-loop-channel
invariant-loop-channel l = l.text.items ≡ l.initial.text.items ++ joined l.channel (value_in_line l.samples.rows l.sample)
