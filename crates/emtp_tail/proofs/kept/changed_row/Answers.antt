use Rattle.std.proofs.Common.{◌≡◌, length, arith}
use Rattle.emtp_tail.specs.held.Given.{rows_in}
use Rattle.emtp_tail.proofs.GivenRows.{length-rows_in, row_of-rows_in}
use Rattle.emtp_tail.proofs.Redoing.{same_from, same_more, change_here, change_none, rows_differ, rows_equal}
use Rattle.emtp_tail.proofs.kept.changed_row.Goals as goal

pub loop-i-init : goal.loop-i-init
loop-i-init g c =
    let size = length (g.R.Rows.matrix c.args.rows.now) in
    let count = length-rows_in size c.args.good c.args.given.now in (
      same_from (rows_in size c.args.good c.args.given.now) (g.R.Rows.matrix c.args.rows.now) c.args.from (omega (arith, c.requires.from)) c.requires.before,
      c.requires.work,
    )

pub returns-then-ne : goal.returns-then-ne
returns-then-ne g c =
    let i = c.loop-i.i in
    let size = length (g.R.Rows.matrix c.args.rows.now) in
    let row_is = row_of-rows_in size c.args.good c.args.given.now i c.loop-i-test.true in
    let compared = rw c.size-size.ensures.size at c.ne.ensures in
    change_here (rows_in size c.args.good c.args.given.now) (g.R.Rows.matrix c.args.rows.now) i c.loop-i.invariant.0
    (rw (← c.row.ensures, row_is) (rows_differ c.row.new.out _ c.ne.result compared c.if-ne.true))

pub loop-i-preserved : goal.loop-i-preserved
loop-i-preserved g c =
    let i = c.loop-i.i in
    let size = length (g.R.Rows.matrix c.args.rows.now) in
    let count = length-rows_in size c.args.good c.args.given.now in
    let row_is = row_of-rows_in size c.args.good c.args.given.now i c.loop-i-test.true in
    let compared = rw c.size-size.ensures.size at c.ne.ensures in (
      same_more (rows_in size c.args.good c.args.given.now) (g.R.Rows.matrix c.args.rows.now) i c.loop-i.invariant.0 (omega arith)
          (rw (← c.row.ensures, row_is) (rows_equal c.row.new.out _ c.ne.result compared c.if-ne.false)),
      omega (arith, c.loop-i.invariant.1),
    )

pub returns : goal.returns
returns g c =
    let size = length (g.R.Rows.matrix c.args.rows.now) in
    let count = length-rows_in size c.args.good c.args.given.now in
    let all : c.loop-i.i ≡ c.args.good = omega arith in
    change_none (rows_in size c.args.good c.args.given.now) (g.R.Rows.matrix c.args.rows.now) c.args.good (rw all at c.loop-i.invariant.0) (omega arith)
