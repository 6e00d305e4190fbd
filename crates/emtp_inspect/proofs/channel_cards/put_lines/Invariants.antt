use Rattle.std.proofs.Common.{◌≡◌, ◌+◌, ◌++◌, drop}
use Rattle.emtp_inspect.specs.ChannelCards.{channel_texts}
use Rattle.emtp_inspect.proofs.channel_cards.put_lines.Given as goal

-- the lines so far and those of the channels that are left are all lines
abbrev pub invariant-loop-at : goal.invariant-loop-at
invariant-loop-at l = l.out.items ++ channel_texts (l.at + 1) (drop l.at l.lines) ≡ l.initial.out.items ++ channel_texts 1 l.lines
