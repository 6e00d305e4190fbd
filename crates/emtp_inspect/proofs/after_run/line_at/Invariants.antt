use Rattle.std.proofs.Common.{◌≡◌, length}
use Rattle.emtp_card.specs.Lines.{lines_of}
use Rattle.emtp_inspect.specs.AfterRun.{line_at}
use Rattle.emtp_inspect.proofs.after_run.line_at.Given as goal

-- the line of the file is that of the rest
abbrev pub invariant-loop-line : goal.invariant-loop-line
invariant-loop-line l = line_at l.left (lines_of l.rest) ≡ line_at l.number (lines_of l.bytes)

abbrev pub decreases-loop-line : goal.decreases-loop-line
decreases-loop-line l = length l.rest
