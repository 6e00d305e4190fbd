use Rattle.std.proofs.Common.{◌≡◌, ◌<◌, ◌≤◌, ℕ, neg_ℤ}
use Rattle.emtp_elim.specs.Matrix.{item}
use Rattle.emtp_net.proofs.residual.turn.Given as goal

abbrev pub invariant-loop-at : goal.invariant-loop-at
invariant-loop-at l = record {
  turned : (j : ℕ) → j < l.at → item l.sums j ≡ neg_ℤ (item l.fn.sums j);
  later : (j : ℕ) → l.at ≤ j → item l.sums j ≡ item l.fn.sums j;
}
