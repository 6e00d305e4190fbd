use Rattle.std.proofs.Common.{◌≡◌, ◌*◌, ◌≤◌, ◌^◌, unsigned_abs}
use Rattle.emtp_machine.specs.Samples.{total_of}
use Rattle.emtp_machine.proofs.samples.Samples.total.Given as goal

abbrev pub invariant-loop-sample : goal.invariant-loop-sample
invariant-loop-sample l = record {
  value : l.total ≡ total_of l.self.rows l.self.channels l.sample;
  bound : unsigned_abs l.total ≤ l.sample * (l.self.channels * 2 ^ 63);
}
