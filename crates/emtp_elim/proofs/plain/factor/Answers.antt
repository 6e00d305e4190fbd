use Rattle.std.proofs.Common.{◌∙◌, arith}
use Rattle.emtp_elim.proofs.Adding.{next_row}
use Rattle.emtp_elim.proofs.plain.factor.Goals as goal

pub loop-i-preserved : goal.loop-i-preserved
loop-i-preserved g c =
    let rows = g.R.Rows.matrix c.args.rows.now in
    let was = c.loop-i.invariant in
    let adds = c.in_default.ensures.added in
    record {
      size = adds.same_size ∙ was.size;
      count = omega (arith, adds.one_more, was.count);
      finished = adds.finished rows (next_row rows c.loop-i.done.rows c.loop-i.i c.row.new.out was.finished was.count (omega (arith, c.size-size.ensures.size)) c.row.ensures);
      work = omega (arith, was.work);
    }

pub returns-in-Err-clause-fault : goal.returns-in-Err-clause-fault
returns-in-Err-clause-fault g c =
    let rows = g.R.Rows.matrix c.args.rows.now in
    let was = c.loop-i.invariant in
    rw was.count at (c.in-Err.ensures.fault.row_fault rows (next_row rows c.loop-i.done.rows c.loop-i.i c.row.new.out was.finished was.count (omega (arith, c.size-size.ensures.size)) c.row.ensures))
