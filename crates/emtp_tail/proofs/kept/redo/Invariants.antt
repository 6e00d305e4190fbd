use Rattle.emtp_tail.proofs.Redoing.{IsRedoing}
use Rattle.emtp_tail.proofs.kept.redo.Given as goal

abbrev pub invariant-loop-i : goal.invariant-loop-i
invariant-loop-i g l = IsRedoing (g.R.Rows.matrix l.rows) l.fn.first l.i l.given l.work l.fn.done l.done l.fn.steps l.steps
