use Rattle.std.proofs.Common.{length}
use Rattle.emtp_elim.specs.held.Row.{numbers}
use Rattle.emtp_elim.proofs.RightSides.{IsPartial}
use Rattle.emtp_elim.proofs.substitution.less_products.Given as goal

abbrev pub invariant-loop-e : goal.invariant-loop-e
invariant-loop-e l = IsPartial l.fn.start (numbers (length l.above) l.row) l.above l.i l.columns l.row.first l.e l.row.pivot l.value
