use Rattle.std.proofs.Common.{rules, ◌≡◌, length, sym, ◌∙◌}
use Rattle.emtp_tests_numbers.proofs.Lawful.{length-table_rows}
use Rattle.emtp_tests_numbers.proofs.elim.has_solution.Goals as goal

pub eliminate_plain-requires-clause-rhs : goal.eliminate_plain-requires-clause-rhs
eliminate_plain-requires-clause-rhs g c =
    let t = c.expect-rows.result in
    let sized : t.size ≡ length c.args.right.now = search rules in
    sym sized ∙ sym (length-table_rows t.size t.fixed t.cells.items)

pub eliminate_plain-requires-clause-x : goal.eliminate_plain-requires-clause-x
eliminate_plain-requires-clause-x g c =
    let t = c.expect-rows.result in
    let sized : t.size ≡ length c.args.unknowns.now = search rules in
    let long : length c.as_mut_slice.result.now ≡ length c.args.unknowns.now = search rules in
    long ∙ sym sized ∙ sym (length-table_rows t.size t.fixed t.cells.items)
