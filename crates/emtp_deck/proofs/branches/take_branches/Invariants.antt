use Rattle.std.proofs.Common.{◌≡◌, drop}
use Rattle.emtp_deck.specs.Branches.{take_branches}
use Rattle.emtp_deck.specs.held.Filling.{IsFilling, made_of}
use Rattle.emtp_deck.proofs.branches.take_branches.Given as goal

abbrev pub invariant-loop-entry : goal.invariant-loop-entry
invariant-loop-entry l = record {
  same : take_branches l.points (made_of l.initial.filling) l.entries ≡ take_branches l.points (made_of l.filling) (drop l.entry-index l.entries);
  filling : IsFilling l.filling;
  run : l.filling.draft.parts.run ≡ l.initial.filling.draft.parts.run;
  nodes : l.filling.nodes.keys ≡ l.initial.filling.nodes.keys;
}
