use Rattle.std.proofs.Common.{◌≡◌, length}
use Rattle.emtp_batch.specs.declared.table.TheConstants.{MAX_ROWS}
use Rattle.emtp_card.specs.Lines.{lines_of}
use Rattle.emtp_inspect.specs.AfterRun.{room_left}
use Rattle.emtp_inspect.proofs.after_run.room_left.Given as goal

-- the room behind the lines is that behind the rest of them
abbrev pub invariant-loop-line : goal.invariant-loop-line
invariant-loop-line l = room_left l.room l.left (lines_of l.rest) ≡ room_left MAX_ROWS l.count (lines_of l.table)

abbrev pub decreases-loop-line : goal.decreases-loop-line
decreases-loop-line l = length l.rest
