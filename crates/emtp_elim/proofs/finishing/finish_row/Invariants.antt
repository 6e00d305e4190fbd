use Rattle.emtp_elim.specs.held.Extent.{IsExtent}
use Rattle.emtp_elim.proofs.PartRows.{IsUnderWay}
use Rattle.emtp_elim.proofs.finishing.finish_row.Given as goal

abbrev pub invariant-loop-k : goal.invariant-loop-k
invariant-loop-k l = IsUnderWay l.done.rows l.k l.fn.work l.work × IsExtent l.work (record { first = l.given.first; diagonal = l.given.diagonal; end = l.end })
