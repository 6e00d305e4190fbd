use Rattle.std.proofs.Common.{◌≡◌, ◌≤◌, ◌^◌}
use Rattle.emtp_machine.specs.Samples.{greatest}
use Rattle.emtp_machine.proofs.samples.Samples.greatest.Given as goal

abbrev pub invariant-loop-sample : goal.invariant-loop-sample
invariant-loop-sample l = record {
  value : l.greatest ≡ greatest l.self.rows l.channel l.sample;
  bound : l.greatest ≤ 2 ^ 63;
}
