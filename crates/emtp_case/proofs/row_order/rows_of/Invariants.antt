use Rattle.emtp_case.proofs.RowTables.{LeadBack}
use Rattle.emtp_case.proofs.row_order.rows_of.Given as goal

abbrev pub invariant-loop-row : goal.invariant-loop-row
invariant-loop-row l = LeadBack l.row l.nodes l.rows.items
