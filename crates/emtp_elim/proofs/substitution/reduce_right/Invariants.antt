use Rattle.emtp_elim.proofs.Reduction.{AreReducedUpTo}
use Rattle.emtp_elim.proofs.substitution.reduce_right.Given as goal

abbrev pub invariant-loop-i : goal.invariant-loop-i
invariant-loop-i l = AreReducedUpTo l.done.rows l.right l.i l.x
