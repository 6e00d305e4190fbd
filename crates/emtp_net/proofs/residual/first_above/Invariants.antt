use Rattle.std.proofs.Common.{◌<◌, ◌≤◌, ℕ, unsigned_abs}
use Rattle.emtp_net.specs.held.Judging.{magnitude_at}
use Rattle.emtp_net.proofs.residual.first_above.Given as goal

abbrev pub invariant-loop-row : goal.invariant-loop-row
invariant-loop-row l = (j : ℕ) → j < l.row → magnitude_at l.kinds l.sums j ≤ unsigned_abs l.tolerance
