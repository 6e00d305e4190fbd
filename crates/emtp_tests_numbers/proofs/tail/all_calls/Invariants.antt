use Rattle.std.proofs.Common.{All}
use Rattle.emtp_tail.specs.Runs.{FitsSize}
use Rattle.emtp_tests_numbers.specs.Tables.{table_rows}
use Rattle.emtp_tests_numbers.specs.declared.table.Table.{Table}
use Rattle.emtp_tests_numbers.proofs.tail.all_calls.Given as goal

abbrev pub invariant-loop-cells : goal.invariant-loop-cells
invariant-loop-cells l = All (FitsSize (λ (t : Table). table_rows t.size t.fixed t.cells.items) 3) l.calls.items
