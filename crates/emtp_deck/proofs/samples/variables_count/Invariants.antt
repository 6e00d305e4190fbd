use Rattle.std.proofs.Common.{◌≡◌, take}
use Rattle.std.specs.List.{sum_by}
use Rattle.std.specs.Prelude.{min}
use Rattle.emtp_deck.specs.Samples.{count_of_variables}
use Rattle.emtp_deck.proofs.samples.variables_count.Given as goal

abbrev pub invariant-loop-entry : goal.invariant-loop-entry
invariant-loop-entry l = l.count ≡ min (sum_by (count_of_variables l.variables.keys) (take l.entry-index l.entries)) 4000001
