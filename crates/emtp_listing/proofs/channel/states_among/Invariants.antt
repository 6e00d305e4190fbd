use Rattle.std.proofs.Common.{◌≡◌, ◌≤◌, take}
use Rattle.std.specs.Prelude.{count_by}
use Rattle.emtp_case.specs.Channel.{is_status}
use Rattle.emtp_listing.proofs.channel.states_among.Given as goal

abbrev pub invariant-loop-channel : goal.invariant-loop-channel
invariant-loop-channel l = record {
  count : l.count ≡ count_by is_status (take l.channel-index l.channels);
  few : l.count ≤ l.channel-index;
}
