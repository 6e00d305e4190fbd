use Rattle.std.proofs.Common.{sym, arith}
use Rattle.emtp_tests_numbers.proofs.Lawful.{length-table_rows, lawful_table}
use Rattle.emtp_tests_numbers.proofs.table.TableRows.size.Goals as goal

pub returns-clause-size : goal.returns-clause-size
returns-clause-size c =
    let t = c.args.self.now in
    sym (length-table_rows t.size t.fixed t.cells.items)

pub returns-clause-law : goal.returns-clause-law
returns-clause-law c =
    let t = c.args.self.now in
    lawful_table t.size t.fixed t.cells.items t.few t.fixed_first (omega (arith, t.square, t.cells.ok.0)) t.limit
