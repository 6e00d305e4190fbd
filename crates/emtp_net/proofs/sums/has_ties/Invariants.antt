use Rattle.std.proofs.Common.{◌<◌, ◌≤◌, ℕ, length}
use Rattle.emtp_rows.specs.Nodal.{kind_at}
use Rattle.emtp_rows.specs.held.Touched.{tied_row}
use Rattle.emtp_net.proofs.sums.has_ties.Given as goal

abbrev pub invariant-loop-k : goal.invariant-loop-k
invariant-loop-k l = (j : ℕ) → j < l.k → length l.kinds ≤ tied_row l.kinds (kind_at l.kinds j)
