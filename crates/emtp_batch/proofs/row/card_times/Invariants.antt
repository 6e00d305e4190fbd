use Rattle.std.proofs.Common.{◌≡◌, take}
use Rattle.emtp_case.specs.Switch.{card_times}
use Rattle.emtp_batch.proofs.row.card_times.Given as goal

abbrev pub invariant-loop-switch : goal.invariant-loop-switch
invariant-loop-switch l = l.times.items ≡ card_times (take l.switch-index l.switch-items)
