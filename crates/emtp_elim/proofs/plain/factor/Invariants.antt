use Rattle.std.proofs.Common.{◌≡◌, length}
use Rattle.emtp_elim.specs.held.Finished.{AreFinished}
use Rattle.emtp_elim.proofs.plain.factor.Given as goal

abbrev pub invariant-loop-i : goal.invariant-loop-i
invariant-loop-i g l = record {
  size : l.done.size ≡ length (g.R.Rows.matrix l.rows);
  count : length l.done.rows ≡ l.i;
  finished : AreFinished (g.R.Rows.matrix l.rows) l.done.rows;
  work : length l.work ≡ length (g.R.Rows.matrix l.rows);
}
