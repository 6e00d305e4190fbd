use Rattle.std.proofs.Common.{◌≡◌, ◌+◌, ◌++◌, drop}
use Rattle.emtp_inspect.specs.CopyCards.{copies_text, copy_in}
use Rattle.emtp_inspect.specs.EachCard.{given_from}
use Rattle.emtp_inspect.proofs.copy_cards.put_copies.Given as goal

-- the lines so far and those of the cards that are left are all lines
abbrev pub invariant-loop-at : goal.invariant-loop-at
invariant-loop-at l = l.out.items ++ given_from (copy_in l.shown.case.now.parts) (l.at + 1) (drop l.at l.shown.readings.now) (drop l.at l.shown.cards.now) ≡ l.initial.out.items ++ copies_text l.shown.readings.now l.shown.cards.now l.shown.case.now.parts
