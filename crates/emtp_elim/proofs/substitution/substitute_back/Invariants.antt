use Rattle.emtp_elim.proofs.Unknowns.{AreFoundInPlace}
use Rattle.emtp_elim.proofs.substitution.substitute_back.Given as goal

abbrev pub invariant-loop-k : goal.invariant-loop-k
invariant-loop-k l = AreFoundInPlace l.done.rows l.fn.x l.k l.x
