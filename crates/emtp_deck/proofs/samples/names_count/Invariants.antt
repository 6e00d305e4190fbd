use Rattle.std.proofs.Common.{◌≡◌, ◌≤◌, take}
use Rattle.std.specs.List.{sum_by}
use Rattle.emtp_deck.specs.Samples.{name_count}
use Rattle.emtp_deck.proofs.samples.names_count.Given as goal

abbrev pub invariant-loop-name : goal.invariant-loop-name
invariant-loop-name l = record {
  same : l.count ≡ sum_by (name_count l.nodes.keys) (take l.name-index l.names);
  few : l.count ≤ l.name-index;
}
