use Rattle.std.proofs.Common.{◌≡◌, ◌<◌, ℕ, pos}
use Rattle.emtp_elim.specs.Matrix.{item}
use Rattle.emtp_elim.proofs.extent.first_column.Given as goal

abbrev pub invariant-loop-j : goal.invariant-loop-j
invariant-loop-j l = (i : ℕ) → i < l.j → item l.row i ≡ pos 0
