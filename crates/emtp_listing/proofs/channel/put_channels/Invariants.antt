use Rattle.std.proofs.Common.{◌≡◌, ◌+◌, take}
use Rattle.emtp_listing.specs.ChannelLines.{channel_line, states_upto}
use Rattle.emtp_listing.specs.Lines.{lines_text, numbered}
use Rattle.emtp_listing.specs.Puts.{Puts}
use Rattle.emtp_listing.proofs.channel.put_channels.Given as goal

abbrev pub invariant-loop-channel : goal.invariant-loop-channel
invariant-loop-channel l = record {
  number : l.number ≡ l.channel-index + 1;
  states : l.states ≡ states_upto l.case.parts.channels l.channel-index;
  text : Puts l.initial.out.items (lines_text (numbered (channel_line l.case.parts) 1 (take l.channel-index l.case.parts.channels))) l.out.items;
}
