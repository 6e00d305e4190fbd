use Rattle.std.proofs.Common.{◌≡◌, ◌<◌, ℕ, length}
use Rattle.emtp_rows.specs.Nodal.{kind_at}
use Rattle.emtp_rows.specs.held.Touched.{AgreesBy}
use Rattle.emtp_rows.proofs.touched.touched_by_kinds.Given as goal

abbrev pub invariant-loop-k : goal.invariant-loop-k
invariant-loop-k l = record {
  agrees : (i k : ℕ) → i < l.least → k < l.k → AgreesBy l.new i k (kind_at l.old k) (kind_at l.new k);
  same : l.old ≡ l.new → l.least ≡ length l.new;
}
