use Rattle.std.proofs.Common.{inl, inr, sym, ◌∙◌, arith}
use Rattle.std.proofs.lemmas.Bool.{cases_lt}
use Rattle.emtp_tests_numbers.proofs.Lawful.{length-table_rows, row_of-table_rows_fixed, row_of-table_rows}
use Rattle.emtp_tests_numbers.proofs.table.TableRows.row.Goals as goal

pub fill_row-requires : goal.fill_row-requires
fill_row-requires c =
    let t = c.args.self.now in
    let count = length-table_rows t.size t.fixed t.cells.items in
    record {
      few = t.few;
      index = omega (arith, count, c.requires.index);
      cells = omega (arith, t.square, c.deref.ensures.len);
      out = c.requires.size ∙ count;
    }

pub returns : goal.returns
returns c =
    let t = c.args.self.now in
    let count = length-table_rows t.size t.fixed t.cells.items in
    elim (cases_lt c.args.i t.fixed) [
      | inl first ↦ c.fill_row.ensures.fixed first ∙ sym (row_of-table_rows_fixed t.size t.fixed t.cells.items c.args.i (omega (arith, count, c.requires.index)) first)
      | inr later ↦ rw c.deref.ensures.value at (c.fill_row.ensures.given later) ∙ sym (row_of-table_rows t.size t.fixed t.cells.items c.args.i (omega (arith, count, c.requires.index)) later)
    ]
