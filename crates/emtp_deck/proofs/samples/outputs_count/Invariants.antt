use Rattle.std.proofs.Common.{◌≡◌, take}
use Rattle.std.specs.Prelude.{min}
use Rattle.std.specs.List.{sum_by}
use Rattle.emtp_deck.specs.Samples.{count_of_entry}
use Rattle.emtp_deck.proofs.samples.outputs_count.Given as goal

abbrev pub invariant-loop-entry : goal.invariant-loop-entry
invariant-loop-entry l = l.count ≡ min (sum_by (count_of_entry l.nodes.keys) (take l.entry-index l.entries)) 4000001
