use Rattle.std.proofs.Common.{◌+◌, length}
use Rattle.emtp_elim.specs.held.Row.{numbers}
use Rattle.emtp_elim.proofs.ClearedRows.{IsLessenedUpTo}
use Rattle.emtp_elim.proofs.clearing.clear_column.Given as goal

abbrev pub invariant-loop-e : goal.invariant-loop-e
invariant-loop-e l = IsLessenedUpTo l.m l.columns (l.above.pivot + 1) l.e l.fn.work (numbers (length l.fn.work) l.above) l.work
