use Rattle.std.proofs.Common.{◌≡◌, ◌*◌, ◌<◌, ◌≤◌, ◌^◌, unsigned_abs}
use Rattle.emtp_machine.specs.Samples.{sum_of}
use Rattle.emtp_machine.proofs.samples.Samples.sum.Given as goal

abbrev pub invariant-loop-channel : goal.invariant-loop-channel
invariant-loop-channel l = record {
  value : l.sum ≡ sum_of l.self.rows l.sample l.channel;
  bound : unsigned_abs l.sum ≤ l.channel * 2 ^ 63;
  small : l.self.room * l.channel-end < 2 ^ 64;
}
