use Rattle.std.proofs.Common.{◌≡◌, fold, take}
use Rattle.emtp_sense.specs.Names.{with_switch_names}
use Rattle.emtp_sense.proofs.names.add_switch_names.Given as goal

abbrev pub invariant-loop-card : goal.invariant-loop-card
invariant-loop-card l = l.nodes.keys ≡ fold with_switch_names l.initial.nodes.keys (take l.card-index l.cards)
