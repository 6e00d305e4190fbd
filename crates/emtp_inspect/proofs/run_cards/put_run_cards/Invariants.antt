use Rattle.std.proofs.Common.{◌≡◌, ◌+◌, ◌++◌, drop}
use Rattle.emtp_inspect.specs.EachCard.{given_from}
use Rattle.emtp_inspect.specs.RunCards.{card_text, run_text}
use Rattle.emtp_inspect.proofs.run_cards.put_run_cards.Given as goal

-- the lines so far and those of the cards that are left are all lines
abbrev pub invariant-loop-at : goal.invariant-loop-at
invariant-loop-at l = l.out.items ++ given_from card_text (l.at + 1) (drop l.at l.shown.readings.now) (drop l.at l.shown.cards.now) ≡ l.initial.out.items ++ run_text l.shown.readings.now l.shown.cards.now
