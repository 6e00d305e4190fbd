use Rattle.std.proofs.Common.{◌≡◌, ◌≤◌, length, ap, ◌∙◌, arith}
use Rattle.emtp_tail.specs.held.Good.{Good}
use Rattle.emtp_tail.proofs.GivenRows.{length-rows_in}
use Rattle.emtp_tail.proofs.Redoing.{first_change_is}
use Rattle.emtp_tail.proofs.kept.Kept.changed_from.Goals as goal

pub changed_row-requires-clause-from : goal.changed_row-requires-clause-from
changed_row-requires-clause-from g c =
    let inside = c.self.inside in
    let count = length-rows_in inside.size (length inside.done.rows) inside.given.items in
    omega (arith, c.requires.from, c.rows-good.ensures.count, count, ap (λ (v : Good). length v.rows) c.self.view_is)

pub returns-clause-first : goal.returns-clause-first
returns-clause-first g c =
    let inside = c.self.inside in
    let rows = g.R.Rows.matrix c.args.rows.now in
    let sized : inside.size ≡ length rows = ap (λ (v : Good). v.size) c.self.view_is ∙ c.requires.size in
    let rows_are = rw sized at (ap (λ (v : Good). v.rows) c.self.view_is) in
    let count = length-rows_in inside.size (length inside.done.rows) inside.given.items in
    let long : length c.args.self.now.rows ≤ length rows = omega (arith, count, sized, c.self.invariant.within, ap (λ (v : Good). length v.rows) c.self.view_is) in
    first_change_is c.args.self.now.rows rows c.changed_row.result long (rw (c.rows-good.ensures.count, c.deref.ensures.value, rows_are) at c.changed_row.ensures)
