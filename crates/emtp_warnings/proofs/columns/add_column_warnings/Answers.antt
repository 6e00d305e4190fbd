use Rattle.emtp_warnings.proofs.Growing.{column-more, first-more, run-more}
use Rattle.emtp_warnings.proofs.columns.add_column_warnings.Goals as goal

pub loop-before-preserved : goal.loop-before-preserved
loop-before-preserved c =
    record {
      run = run-more c.args.ruler.now c.args.line.now.bytes.now c.loop-before.before c.loop-before.run c.run_with-run.result c.loop-before.invariant.run c.run_with-run.ensures;
      first = first-more c.args.ruler.now c.loop-before.before c.loop-before.first c.first_with-first.result c.loop-before.invariant.first c.first_with-first.ensures.value;
      begins = c.first_with-first.ensures.begins;
      added = column-more c.args.ruler.now c.args.line.now.number c.args.line.now.bytes.now c.loop-before.before c.loop-before.run c.loop-before.first c.loop-before.invariant.run c.loop-before.invariant.first c.loop-before.invariant.added c.in_ok-add_at_column.ensures;
    }
