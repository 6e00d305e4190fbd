use Rattle.std.proofs.Common.{◌≡◌, ◌++◌, take}
use Rattle.emtp_deck.proofs.reading.add_channels.Given as goal

abbrev pub invariant-loop-channel : goal.invariant-loop-channel
invariant-loop-channel l = l.draft.parts ≡ record l.initial.draft.parts { channels = l.initial.draft.parts.channels ++ take l.channel-index l.channels }
