use Rattle.std.proofs.Common.{◌≡◌, take}
use Rattle.emtp_tail.specs.Runs.{Run}
use Rattle.emtp_tail.proofs.runs.answer_all.Given as goal

abbrev pub invariant-loop-call : goal.invariant-loop-call
invariant-loop-call g l = Run g.R.Rows.matrix l.fn.kept l.fn.steps (take l.call-index l.calls) l.replies.items l.kept l.steps × (l.kept.size ≡ l.fn.kept.size)
