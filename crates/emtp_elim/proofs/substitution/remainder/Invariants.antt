use Rattle.std.proofs.Common.{length, ◌+◌}
use Rattle.emtp_elim.specs.Matrix.{item}
use Rattle.emtp_elim.specs.held.Row.{numbers}
use Rattle.emtp_elim.proofs.Remainders.{IsRemainder}
use Rattle.emtp_elim.proofs.substitution.remainder.Given as goal

abbrev pub invariant-loop-e : goal.invariant-loop-e
invariant-loop-e l = IsRemainder (item l.x l.k) l.k (length l.x) (numbers (length l.x) l.row) l.x l.columns (l.row.pivot + 1) l.e l.row.last l.left
