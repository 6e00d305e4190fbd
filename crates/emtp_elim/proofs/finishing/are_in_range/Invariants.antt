use Rattle.std.proofs.Common.{◌<◌, ◌≤◌, ℕ, unsigned_abs}
use Rattle.emtp_fix.specs.declared.limit.TheConstants.{LARGEST_ENTRY}
use Rattle.emtp_elim.specs.Matrix.{item}
use Rattle.emtp_elim.proofs.finishing.are_in_range.Given as goal

abbrev pub invariant-loop-j : goal.invariant-loop-j
invariant-loop-j l = (i : ℕ) → i < l.j → unsigned_abs (item l.row i) ≤ LARGEST_ENTRY
