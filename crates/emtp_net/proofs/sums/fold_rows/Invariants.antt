use Rattle.emtp_net.specs.held.Sums.{IsFolded}
use Rattle.emtp_net.proofs.sums.fold_rows.Given as goal

abbrev pub invariant-loop-k : goal.invariant-loop-k
invariant-loop-k l = IsFolded l.kinds l.k l.fn.sums l.sums
