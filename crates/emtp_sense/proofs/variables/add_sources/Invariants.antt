use Rattle.std.proofs.Common.{◌≡◌, fold, take}
use Rattle.emtp_sense.specs.Variables.{with_source_name}
use Rattle.emtp_sense.proofs.variables.add_sources.Given as goal

abbrev pub invariant-loop-card : goal.invariant-loop-card
invariant-loop-card l = l.names.keys ≡ fold with_source_name l.initial.names.keys (take l.card-index l.cards)
