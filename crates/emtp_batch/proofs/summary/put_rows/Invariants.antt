use Rattle.std.proofs.Common.{◌≡◌, ◌+◌, ◌++◌, drop}
use Rattle.emtp_batch.specs.Summary.{row_lines}
use Rattle.emtp_batch.proofs.summary.put_rows.Given as goal

-- the lines so far and those of the rows that are left are all lines
abbrev pub invariant-loop-place : goal.invariant-loop-place
invariant-loop-place l = l.text.items ++ row_lines (l.place + 1) (drop l.place l.reports) ≡ l.fn.text.items ++ row_lines 1 l.reports
