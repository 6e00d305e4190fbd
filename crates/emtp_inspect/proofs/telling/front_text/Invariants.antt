use Rattle.std.proofs.Common.{◌≡◌, take}
use Rattle.emtp_listing.specs.Lines.{lines_text}
use Rattle.emtp_inspect.proofs.telling.front_text.Given as goal

abbrev pub invariant-loop-at : goal.invariant-loop-at
invariant-loop-at l = l.text.items ≡ lines_text (take l.at l.cards)
