use Rattle.std.proofs.Common.{◌≡◌, take}
use Rattle.std.specs.List.{sum_by}
use Rattle.emtp_case.specs.HistoryValues.{extra_history_values}
use Rattle.emtp_listing.proofs.history.extra_values.Given as goal

abbrev pub invariant-loop-extra : goal.invariant-loop-extra
invariant-loop-extra l = l.count ≡ sum_by (extra_history_values l.parts.run.dt) (take l.extra-index l.parts.extras)
