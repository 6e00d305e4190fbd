use Rattle.emtp_elim.specs.held.Extent.{IsClearAfter}
use Rattle.emtp_elim.proofs.extent.end_column.Given as goal

abbrev pub invariant-loop-j : goal.invariant-loop-j
invariant-loop-j l = IsClearAfter l.row l.j
