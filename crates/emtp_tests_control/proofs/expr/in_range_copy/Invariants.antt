use Rattle.emtp_expr.specs.held.Value.{AreInRange}
use Rattle.emtp_tests_control.proofs.expr.in_range_copy.Given as goal

abbrev pub invariant-loop-value : goal.invariant-loop-value
invariant-loop-value l = AreInRange l.copy.items
