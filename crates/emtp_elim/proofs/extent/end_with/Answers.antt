use Rattle.std.proofs.Common.{◌+◌, ◌-◌, ◌<◌, slice_index, arith}
use Rattle.emtp_elim.specs.held.Row.{numbers}
use Rattle.emtp_elim.proofs.Extents.{clear_after, clear_without}
use Rattle.emtp_elim.proofs.extent.end_with.Goals as goal

pub returns-then-above-clause-clear : goal.returns-then-above-clause-clear
returns-then-above-clause-clear c =
    let row = c.requires.above in
    clear_without (numbers c.args.size c.args.above) (c.args.k + 1) c.args.size c.args.above.columns.now c.args.above.values.now (c.args.above.pivot + 1) c.args.above.last c.args.end row.later row.finished.length_is (omega arith) (omega (arith, c.requires.place))

pub returns-then-last-end-clause-clear : goal.returns-then-last-end-clause-clear
returns-then-last-end-clause-clear c =
    let row = c.requires.above in
    let greatest : slice_index c.args.above.columns.now (c.args.above.last - 1) < c.args.end = omega arith in
    clear_after (numbers c.args.size c.args.above) (c.args.k + 1) c.args.size c.args.above.columns.now c.args.above.values.now (c.args.above.pivot + 1) c.args.above.last c.args.end row.later row.finished.length_is (omega (arith, row.pivot_within)) greatest

pub returns-else-last-end-clause-clear : goal.returns-else-last-end-clause-clear
returns-else-last-end-clause-clear c =
    let row = c.requires.above in
    clear_after (numbers c.args.size c.args.above) (c.args.k + 1) c.args.size c.args.above.columns.now c.args.above.values.now (c.args.above.pivot + 1) c.args.above.last _ row.later row.finished.length_is (omega (arith, row.pivot_within)) (omega arith)
