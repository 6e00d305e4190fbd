use Rattle.std.proofs.Common.{◌≡◌, drop}
use Rattle.emtp_deck.specs.held.Filling.{IsFilling, made_of}
use Rattle.emtp_deck.specs.Switches.{take_switches}
use Rattle.emtp_deck.proofs.switches.take_switches.Given as goal

abbrev pub invariant-loop-card : goal.invariant-loop-card
invariant-loop-card l = record {
  same : take_switches (made_of l.initial.filling) l.cards ≡ take_switches (made_of l.filling) (drop l.card-index l.cards);
  filling : IsFilling l.filling;
  nodes : l.filling.nodes.keys ≡ l.initial.filling.nodes.keys;
}
