use Rattle.std.proofs.Common.{◌≡◌, drop}
use Rattle.emtp_deck.specs.held.Filling.{IsFilling, made_of}
use Rattle.emtp_deck.specs.Outputs.{take_outputs}
use Rattle.emtp_deck.proofs.outputs.take_outputs.Given as goal

abbrev pub invariant-loop-entry : goal.invariant-loop-entry
invariant-loop-entry l = record {
  same : take_outputs (made_of l.initial.filling) l.entries ≡ take_outputs (made_of l.filling) (drop l.entry-index l.entries);
  filling : IsFilling l.filling;
}
