use Rattle.std.proofs.Common.{◌≡◌, ◌+◌, ◌*◌, drop}
use Rattle.emtp_deck.specs.held.Filling.{IsFilling, made_of}
use Rattle.emtp_deck.specs.Outputs.{take_names}
use Rattle.emtp_deck.proofs.outputs.take_names.Given as goal

abbrev pub invariant-loop-name : goal.invariant-loop-name
invariant-loop-name l = record {
  same : take_names l.named l.line (made_of l.initial.filling) 3 l.names ≡ take_names l.named l.line (made_of l.filling) l.column (drop l.name-index l.names);
  column : l.column ≡ 3 + 6 * l.name-index;
  filling : IsFilling l.filling;
}
