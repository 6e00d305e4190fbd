use Rattle.emtp_elim.proofs.KeptRows.{count_is, width-rows_kept}
use Rattle.emtp_elim.proofs.sparse.SparseRows.rows.Goals as goal

pub returns-clause-count : goal.returns-clause-count
returns-clause-count c = count_is _ _ _ _ _ _ _ c.self.view_is

pub returns-clause-width : goal.returns-clause-width
returns-clause-width c = rw (← c.self.view_is) (width-rows_kept _ _ _ _ _)
