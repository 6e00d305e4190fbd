use Rattle.std.proofs.Common.{◌≡◌, ◌<◌, ◌≤◌, ◌*◌, ◌^◌, ℕ, List, length, slice_get, unsigned_abs}
use Rattle.emtp_elim.specs.Matrix.{item}
use Rattle.emtp_case.specs.StepRecord.{StepRecord}
use Rattle.emtp_net.specs.held.Branches.{StandsFor}
use Rattle.emtp_case.specs.Sums.{sum_below}
use Rattle.emtp_rows.specs.Nodal.{node_at}
use Rattle.emtp_net.specs.System.{at_node, history_at}
use Rattle.emtp_net.proofs.right.add_histories.Given as goal

abbrev pub invariant-loop-at : goal.invariant-loop-at
invariant-loop-at l = record {
  value : (H : List StepRecord) → StandsFor l.branches H → (j : ℕ) → j < length l.out → item l.out j ≡ sum_below l.at (λ b. at_node (node_at l.case.parts j) (slice_get l.case.parts.branches b) (history_at l.case.parts H b));
  bound : (j : ℕ) → j < length l.out → unsigned_abs (item l.out j) ≤ l.at * (2 * 10 ^ 30);
}
