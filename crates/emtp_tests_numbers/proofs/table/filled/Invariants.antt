use Rattle.std.proofs.Common.{◌≡◌, ◌^◌, length}
use Rattle.emtp_elim.specs.held.Matrix.{AreWithin}
use Rattle.emtp_tests_numbers.proofs.table.filled.Given as goal

abbrev pub invariant-loop-cell : goal.invariant-loop-cell
invariant-loop-cell l = (length l.wide.items ≡ l.cell-index) × AreWithin (10 ^ 26) l.wide.items
