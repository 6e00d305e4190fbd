use Rattle.std.proofs.Common.{◌≡◌, take}
use Rattle.std.specs.Prelude.{min}
use Rattle.std.specs.List.{sum_by}
use Rattle.emtp_deck.specs.Samples.{count_of_switch}
use Rattle.emtp_deck.proofs.samples.switches_count.Given as goal

abbrev pub invariant-loop-card : goal.invariant-loop-card
invariant-loop-card l = l.count ≡ min (sum_by count_of_switch (take l.card-index l.cards)) 4000001
