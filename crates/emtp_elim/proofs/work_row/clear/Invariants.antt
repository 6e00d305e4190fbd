use Rattle.emtp_elim.specs.held.Written.{IsWritten}
use Rattle.emtp_elim.proofs.work_row.clear.Given as goal

abbrev pub invariant-loop-j : goal.invariant-loop-j
invariant-loop-j l = IsWritten l.work l.j l.fn.extent.end
