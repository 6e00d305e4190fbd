use Rattle.std.proofs.Common.{◌≡◌, ◌<◌, ◌+◌, ℕ, pos}
use Rattle.emtp_elim.specs.Matrix.{item}
use Rattle.emtp_rows.specs.held.Touched.{row_at}
use Rattle.emtp_net.proofs.voltages.fill_voltages.Given as goal

abbrev pub invariant-loop-at : goal.invariant-loop-at
invariant-loop-at l = record {
  ground : item l.out 0 ≡ pos 0;
  each : (k : ℕ) → k < l.at → item l.out (k + 1) ≡ item l.x (row_at l.case.parts (k + 1));
}
