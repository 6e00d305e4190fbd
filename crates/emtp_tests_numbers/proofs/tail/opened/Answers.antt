use Rattle.std.proofs.Common.{rules, ◌≡◌, length, ◌∙◌}
use Rattle.emtp_tests_numbers.specs.Tables.{table_rows}
use Rattle.emtp_tests_numbers.proofs.Lawful.{length-table_rows}
use Rattle.emtp_tests_numbers.proofs.tail.opened.Goals as goal

pub returns : goal.returns
returns g c =
    let t = c.expect-rows.result in
    let sized : t.size ≡ c.args.size = search rules in
    let kept_size : c.expect-kept.result.size ≡ length (table_rows t.size t.fixed t.cells.items) = search rules in
    kept_size ∙ length-table_rows t.size t.fixed t.cells.items ∙ sized
