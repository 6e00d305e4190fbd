use Rattle.std.proofs.Common.{◌≡◌, ◌<◌, ◌≤◌, pos, length, ◌∙◌, arith}
use Rattle.std.proofs.lemmas.Int.{ints}
use Rattle.emtp_elim.specs.Matrix.{item}
use Rattle.emtp_elim.proofs.Extents.{extent_more}
use Rattle.emtp_elim.proofs.PartRows.{within_from_all, underway_from, underway_clear, underway_more, faults_start, faults_clearing, faults_pivot, finishes}
use Rattle.emtp_elim.proofs.finishing.finish_row.Goals as goal

pub returns-then-not-are_in_range-clause-fault : goal.returns-then-not-are_in_range-clause-fault
returns-then-not-are_in_range-clause-fault c =
    let out = c.if-not-are_in_range.ensures.out in
    faults_start _ c.args.work.now (λ all. omega (arith, within_from_all _ _ all out.0, out.1))

pub loop-k-init : goal.loop-k-init
loop-k-init c =
    let extent = c.requires.extent in
    let low : c.args.given.first ≤ length c.args.done.now.rows = omega (arith, extent.low, c.requires.diagonal) in
    (underway_from _ _ _ c.args.work.now c.if-not-are_in_range.ensures.within low c.requires.room c.requires.size c.rows-count.ensures.width extent.before, extent)

pub loop-k-preserved-then-work-k-eq0 : goal.loop-k-preserved-then-work-k-eq0
loop-k-preserved-then-work-k-eq0 c =
    let sized = c.loop-k.auto.work ∙ c.requires.size in
    let before : c.loop-k.k < length c.args.done.now.rows = omega (arith, c.rows-count.ensures.count) in
    let clear : item c.loop-k.work c.loop-k.k ≡ pos 0 = omega (arith, ints) in
    (underway_clear _ _ _ c.args.work.now c.loop-k.work c.loop-k.invariant.0 before c.requires.room sized (c.rows-count.ensures.width c.loop-k.k before) clear, c.loop-k.invariant.1)

pub loop-k-preserved : goal.loop-k-preserved
loop-k-preserved c =
    let sized = c.loop-k.auto.work ∙ c.requires.size in
    let before : c.loop-k.k < length c.args.done.now.rows = omega (arith, c.rows-count.ensures.count) in
    let cleared = rw (sized, c.row-above.ensures.numbers) at c.if-not-clear_column.ensures.cleared in
    let clear = rw (c.requires.size, c.row-above.ensures.numbers) at c.end_with-end.ensures.clear in
    let same : length c.clear_column.new.work ≡ length c.loop-k.work = omega arith in (
      underway_more c.args.done.now.size c.loop-k.k c.args.done.now.rows c.args.work.now c.loop-k.work c.clear_column.new.work c.loop-k.invariant.0 before c.requires.room sized (same ∙ sized) (c.rows-count.ensures.width c.loop-k.k before) cleared,
      extent_more _ _ c.loop-k.k _ _ c.loop-k.work _ c.clear_column.new.work c.loop-k.invariant.1 cleared (omega arith) (omega arith) c.end_with-end.ensures.low (omega (arith, c.end_with-end.ensures.within)) same clear,
    )

pub clear_column-requires-clause-above : goal.clear_column-requires-clause-above
clear_column-requires-clause-above c = rw (c.loop-k.auto.work, c.requires.size) c.row-above.ensures.row

pub returns-then-not-clear_column-clause-fault : goal.returns-then-not-clear_column-clause-fault
returns-then-not-clear_column-clause-fault c =
    let sized = c.loop-k.auto.work ∙ c.requires.size in
    faults_clearing c.args.done.now.size c.loop-k.k c.args.done.now.rows c.args.work.now c.loop-k.work c.loop-k.invariant.0 (omega arith) c.requires.room sized
    (rw c.row-above.ensures.numbers at c.row-above.ensures.row.finished) (rw (sized, c.row-above.ensures.numbers, ← sized) at c.if-not-clear_column.ensures.out)

pub returns-then-work-count-eq0-clause-fault : goal.returns-then-work-count-eq0-clause-fault
returns-then-work-count-eq0-clause-fault c =
    let all : c.loop-k.k ≡ length c.args.done.now.rows = omega arith in
    let zero_pivot : item c.loop-k.work (length c.args.done.now.rows) ≡ pos 0 = rw (← c.rows-count.ensures.count) (omega (arith, ints)) in
    faults_pivot c.args.done.now.size c.args.done.now.rows c.args.work.now c.loop-k.work (rw all at c.loop-k.invariant.0) c.requires.room (omega arith) zero_pivot

pub returns-clause-finished : goal.returns-clause-finished
returns-clause-finished c =
    let all : c.loop-k.k ≡ length c.args.done.now.rows = omega arith in
    finishes c.args.done.now.size c.args.done.now.rows c.args.work.now c.loop-k.work (rw all at c.loop-k.invariant.0) c.requires.room (omega arith)
    (λ e. let zero_pivot : item c.loop-k.work c.rows-count.result ≡ pos 0 = rw c.rows-count.ensures.count e in omega (arith, ints))
