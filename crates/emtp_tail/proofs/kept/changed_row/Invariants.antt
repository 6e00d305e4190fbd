use Rattle.std.proofs.Common.{◌≡◌, length}
use Rattle.emtp_tail.specs.held.Given.{rows_in}
use Rattle.emtp_tail.proofs.Redoing.{IsSameUpTo}
use Rattle.emtp_tail.proofs.kept.changed_row.Given as goal

abbrev pub invariant-loop-i : goal.invariant-loop-i
invariant-loop-i g l = IsSameUpTo (rows_in (length (g.R.Rows.matrix l.rows)) l.good l.given) (g.R.Rows.matrix l.rows) l.i × (length l.work ≡ length (g.R.Rows.matrix l.rows))
