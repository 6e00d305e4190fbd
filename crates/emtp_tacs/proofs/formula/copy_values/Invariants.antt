use Rattle.std.proofs.Common.{◌≡◌, ◌<◌, ℕ, get_or}
use Rattle.emtp_elim.specs.Matrix.{item}
use Rattle.emtp_tacs.proofs.formula.copy_values.Given as goal

abbrev pub invariant-loop-at : goal.invariant-loop-at
invariant-loop-at l = (k : ℕ) → k < l.at → item l.out k ≡ item l.values (get_or l.vars k 0)
