use Rattle.std.proofs.Common.{◌≡◌, ◌+◌, ◌++◌, drop}
use Rattle.emtp_inspect.specs.ChannelCards.{asking_in, asking_lines}
use Rattle.emtp_inspect.specs.EachCard.{given_from}
use Rattle.emtp_inspect.proofs.channel_cards.add_group.Given as goal

-- the lines so far and those of the cards that are left are all lines
abbrev pub invariant-loop-at : goal.invariant-loop-at
invariant-loop-at l =
    l.lines.items ++ given_from (asking_in l.shown.case.now.parts l.group) (l.at + 1) (drop l.at l.shown.readings.now) (drop l.at l.shown.cards.now) ≡ l.initial.lines.items ++ asking_lines l.shown.readings.now l.shown.cards.now l.shown.case.now.parts l.group
