use Rattle.std.proofs.Common.{◌≡◌, ◌+◌, drop}
use Rattle.emtp_walk.specs.held.Sound.{IsSound}
use Rattle.emtp_walk.specs.Walk.{empty_deck, walk}
use Rattle.emtp_walk.specs.declared.deck.Place.TheVariants.{Begin}
use Rattle.emtp_walk.proofs.steps.take_lines.Given as goal

abbrev pub invariant-loop-at : goal.invariant-loop-at
invariant-loop-at l = record {
  same : walk 1 empty_deck Begin l.cards ≡ walk (l.at + 1) l.deck l.place (drop l.at l.cards);
  sound : IsSound l.deck l.place;
}
