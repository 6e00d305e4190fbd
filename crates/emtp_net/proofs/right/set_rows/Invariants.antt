use Rattle.std.proofs.Common.{◌≡◌, ◌<◌, ◌≤◌, ℕ, slice_index}
use Rattle.emtp_elim.specs.Matrix.{item}
use Rattle.emtp_net.specs.held.Rights.{row_value}
use Rattle.emtp_rows.specs.Nodal.{kind_at}
use Rattle.emtp_net.proofs.right.set_rows.Given as goal

abbrev pub invariant-loop-i : goal.invariant-loop-i
invariant-loop-i l = record {
  set : (j : ℕ) → j < l.i → item l.out j ≡ row_value (item l.fn.out j) (item l.values (slice_index l.places j)) (kind_at l.kinds j);
  later : (j : ℕ) → l.i ≤ j → item l.out j ≡ item l.fn.out j;
}
