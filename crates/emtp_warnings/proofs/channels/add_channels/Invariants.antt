use Rattle.emtp_warnings.specs.AddsTo.{AddsTo}
use Rattle.emtp_warnings.specs.ChannelWarnings.{up_to_channel}
use Rattle.emtp_warnings.proofs.channels.add_channels.Given as goal

abbrev pub invariant-loop-place : goal.invariant-loop-place
invariant-loop-place l = AddsTo l.initial.out.items (up_to_channel l.channels l.place) l.out.items
