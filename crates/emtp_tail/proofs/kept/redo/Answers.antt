use Rattle.std.proofs.Common.{rules, ℕ, ◌≡◌, ◌+◌, ◌*◌, ◌<◌, ◌≤◌, length, ap, sym, ◌∙◌, arith}
use Rattle.std.proofs.lemmas.Nat.{row_fits}
use Rattle.emtp_elim.specs.Matrix.{row_of}
use Rattle.emtp_tail.proofs.GivenRows.{length-rows_in, length-put_row}
use Rattle.emtp_tail.proofs.Redoing.{redoing_start, redoing_more, given_kept, kept_redone}
use Rattle.emtp_tail.proofs.kept.redo.Goals as goal

pub cut-requires : goal.cut-requires
cut-requires g c =
    let size = length (g.R.Rows.matrix c.args.rows.now) in
    omega (arith, c.requires.first.within, length-rows_in size (length c.args.done.now.rows) c.args.given.now)

pub loop-i-init : goal.loop-i-init
loop-i-init g c =
    redoing_start (g.R.Rows.matrix c.args.rows.now) c.args.first c.args.given.now c.args.work.now c.args.done.now c.cut.new.self c.args.steps.now
    c.finished_rows_stay.ensures c.requires.kept c.requires.first c.cut.ensures

pub returns-in-Err-clause-prefix : goal.returns-in-Err-clause-prefix
returns-in-Err-clause-prefix g c =
    let rows = g.R.Rows.matrix c.args.rows.now in
    let i = c.loop-i.i in
    let was = c.loop-i.invariant in
    let inside : i < length rows = omega (arith, c.size-size.ensures.size) in
    rw c.size-size.ensures.size (record {
      same_size = rw c.in-Err.ensures.kept was.redone.same_size;
      count = rw c.in-Err.ensures.kept was.redone.count;
      given_first = given_kept rows i c.loop-i.given c.copy_from_slice.new.self inside was.room was.redone.given_first;
      finished = rw c.in-Err.ensures.kept was.redone.finished;
    })

pub returns-in-Err-clause-fault : goal.returns-in-Err-clause-fault
returns-in-Err-clause-fault g c =
    let rows = g.R.Rows.matrix c.args.rows.now in
    let i = c.loop-i.i in
    let count = c.loop-i.invariant.redone.count in
    let inside : i < length rows = omega (arith, c.size-size.ensures.size) in
    let row_is = ap (row_of rows) count ∙ sym c.row.ensures in
    rw (← count) (c.in-Err.ensures.fault.row_fault rows (record { finished = c.loop-i.invariant.redone.finished; within = omega (arith, count); row_is = row_is }))

pub returns-in-Err-clause-fault_ticks : goal.returns-in-Err-clause-fault_ticks
returns-in-Err-clause-fault_ticks g c = omega (arith, c.loop-i.invariant.ticked, c.eliminate_row.ensures.steps)

pub loop-i-preserved : goal.loop-i-preserved
loop-i-preserved g c =
    let rows = g.R.Rows.matrix c.args.rows.now in
    let i = c.loop-i.i in
    let was = c.loop-i.invariant in
    let inside : i < length rows = omega (arith, c.size-size.ensures.size) in
    rw c.size-size.ensures.size (redoing_more rows c.args.first i c.loop-i.given c.loop-i.work c.row.new.out c.copy_from_slice.new.self c.eliminate_row.new.work c.args.done.now
    c.loop-i.done c.eliminate_row.new.done c.args.steps.now c.loop-i.steps c.eliminate_row.new.steps was inside c.row.ensures (omega (arith, was.room_work)) (search rules) c.in_default.ensures.added c.eliminate_row.ensures.capacities (omega (arith, was.room_work)) c.eliminate_row.ensures.steps)

pub returns-in-Err-clause-kept : goal.returns-in-Err-clause-kept
returns-in-Err-clause-kept g c =
    let rows = g.R.Rows.matrix c.args.rows.now in
    let i = c.loop-i.i in
    let was = c.loop-i.invariant in
    let inside : i < length rows = omega (arith, c.size-size.ensures.size) in
    let fits : i * length rows + length rows ≤ length rows * length rows = row_fits i (length rows) (length rows) (length rows) inside (omega arith) in
    let same_row : length c.copy_from_slice.new.self ≡ length rows = omega (arith, was.room_work, c.size-size.ensures.size) in
    kept_redone rows i _ c.eliminate_row.new.work c.eliminate_row.new.done c.finished_rows_stay.ensures was.few (omega arith)
    (rw c.size-size.ensures.size (length-put_row (length rows) i c.loop-i.given c.copy_from_slice.new.self (omega (arith, was.room)) same_row ∙ was.room))
    (omega (arith, was.room_work)) (returns-in-Err-clause-prefix g c)

pub returns-clause-kept : goal.returns-clause-kept
returns-clause-kept g c =
    let was = c.loop-i.invariant in
    kept_redone _ _ _ _ _ c.finished_rows_stay.ensures was.few (omega (arith, c.size-size.ensures.size)) was.room was.room_work was.redone

pub row-requires-clause-index : goal.row-requires-clause-index
row-requires-clause-index g c = omega (arith, c.size-size.ensures.size)

pub row-requires-clause-size : goal.row-requires-clause-size
row-requires-clause-size g c = omega (arith, c.loop-i.invariant.room_work, c.size-size.ensures.size)

pub eliminate_row-requires-clause-size : goal.eliminate_row-requires-clause-size
eliminate_row-requires-clause-size g c = omega (arith, c.loop-i.invariant.room_work, c.loop-i.invariant.redone.same_size)

pub eliminate_row-requires-clause-room : goal.eliminate_row-requires-clause-room
eliminate_row-requires-clause-room g c = omega (arith, c.loop-i.invariant.redone.same_size, c.loop-i.invariant.redone.count, c.size-size.ensures.size)

pub returns-in-Err-clause-redone : goal.returns-in-Err-clause-redone
returns-in-Err-clause-redone g c = tt

pub returns-in-Err-clause-ticks : goal.returns-in-Err-clause-ticks
returns-in-Err-clause-ticks g c = tt

pub returns-clause-ticks : goal.returns-clause-ticks
returns-clause-ticks g c = omega (arith, c.loop-i.invariant.ticked, c.size-size.ensures.size)

pub returns-clause-fault : goal.returns-clause-fault
returns-clause-fault g c = tt

pub returns-clause-prefix : goal.returns-clause-prefix
returns-clause-prefix g c = tt

pub returns-clause-fault_ticks : goal.returns-clause-fault_ticks
returns-clause-fault_ticks g c = tt

pub returns-in-Err-clause-earlier : goal.returns-in-Err-clause-earlier
returns-in-Err-clause-earlier g c = rw c.in-Err.ensures.kept c.loop-i.invariant.earlier

pub returns-clause-earlier : goal.returns-clause-earlier
returns-clause-earlier g c = c.loop-i.invariant.earlier

pub returns-in-Err-clause-capacities : goal.returns-in-Err-clause-capacities
returns-in-Err-clause-capacities g c = c.eliminate_row.ensures.capacities ∙ c.loop-i.invariant.capacities

pub returns-clause-capacities : goal.returns-clause-capacities
returns-clause-capacities g c = c.loop-i.invariant.capacities

row_low : (i size n : ℕ) → i < size → size ≡ n → n ≤ 1000 → i * size + size ≤ 1000 * 1000
row_low i size n inside same few = row_fits i size 1000 1000 (omega arith) (omega arith)

pub overflow_mul-at : goal.overflow_mul-at
overflow_mul-at g c = omega (arith, row_low c.loop-i.i c.size-size.result _ c.loop-i-test.true c.size-size.ensures.size c.loop-i.invariant.few)

pub overflow_add-at : goal.overflow_add-at
overflow_add-at g c = omega (arith, row_low c.loop-i.i c.size-size.result _ c.loop-i-test.true c.size-size.ensures.size c.loop-i.invariant.few)

pub offset_bounds-given-at : goal.offset_bounds-given-at
offset_bounds-given-at g c = omega (arith, row_low c.loop-i.i c.size-size.result _ c.loop-i-test.true c.size-size.ensures.size c.loop-i.invariant.few)

pub returns-clause-redone : goal.returns-clause-redone
returns-clause-redone g c =
    let all : c.loop-i.i ≡ length (g.R.Rows.matrix c.args.rows.now) = omega (arith, c.size-size.ensures.size, c.loop-i-test.false, c.loop-i.auto.i-end) in
    rw all at c.loop-i.invariant.redone
