use Rattle.std.proofs.Common.{◌≡◌, take}
use Rattle.std.specs.List.{sum_by}
use Rattle.emtp_case.specs.HistoryValues.{branch_history_values}
use Rattle.emtp_listing.proofs.history.branch_values.Given as goal

abbrev pub invariant-loop-branch : goal.invariant-loop-branch
invariant-loop-branch l = l.count ≡ sum_by (branch_history_values l.parts.run.dt) (take l.branch-index l.parts.branches)
