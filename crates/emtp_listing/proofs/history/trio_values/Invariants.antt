use Rattle.std.proofs.Common.{◌≡◌, take}
use Rattle.std.specs.List.{sum_by}
use Rattle.emtp_case.specs.HistoryValues.{trio_history_values}
use Rattle.emtp_listing.proofs.history.trio_values.Given as goal

abbrev pub invariant-loop-trio : goal.invariant-loop-trio
invariant-loop-trio l = l.count ≡ sum_by (trio_history_values l.parts.run.dt) (take l.trio-index l.parts.trios)
