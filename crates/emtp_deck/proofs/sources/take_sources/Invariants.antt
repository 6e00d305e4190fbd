use Rattle.std.proofs.Common.{◌≡◌, drop}
use Rattle.emtp_deck.specs.held.Filling.{IsFilling, made_of}
use Rattle.emtp_deck.specs.Sources.{take_sources}
use Rattle.emtp_deck.proofs.sources.take_sources.Given as goal

abbrev pub invariant-loop-card : goal.invariant-loop-card
invariant-loop-card l = record {
  same : take_sources (made_of l.initial.filling) l.cards ≡ take_sources (made_of l.filling) (drop l.card-index l.cards);
  filling : IsFilling l.filling;
}
