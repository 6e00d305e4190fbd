use Rattle.std.proofs.Common.{◌≡◌, ◌∙◌, ◌<◌, ◌*◌, ◌/◌, ℤ, List, Result, Err, sym, ap, subst, length, length-take-le, arith}
use Rattle.emtp_elim.specs.held.Finished.{Finished}
use Rattle.emtp_elim.specs.Matrix.{row_of}
use Rattle.emtp_elim.specs.held.WorkRow.{IsClearRow}
use Rattle.emtp_elim.specs.declared.fault.RowFault.{RowFault}
use Rattle.emtp_elim.proofs.Adding.{next_row}
use Rattle.emtp_case.specs.held.EndNames.{IsNode}
use Rattle.emtp_case.specs.NodeRows.{node_at}
use Rattle.emtp_case.proofs.RowsOfNodes.{order_at, order_size, row_node}
use Rattle.emtp_machine.specs.declared.end.Cause.{Cause}
use Rattle.emtp_phasor.specs.Doubled.{Doubled, doubled_matrix}
use Rattle.emtp_phasor.specs.Steady.{cause_of, ending_at, named_ending}
use Rattle.emtp_phasor.specs.declared.ending.Ending.{Ending}
use Rattle.emtp_phasor.proofs.Doubling.{length-doubled_matrix, row_is}
use Rattle.emtp_phasor.proofs.SolvedRows.{none_finished}
use Rattle.emtp_phasor.proofs.elimination.eliminate_rows.Goals as goal

pub loop-row-init : goal.loop-row-init
loop-row-init g c =
    let s : Doubled = record { case = c.args.network.case.now.parts; ports = c.args.network.ports.now; kinds = c.args.network.kinds.now } in
    let none : length c.cut.new.self.rows ≡ 0 = omega (arith, ap (λ (d : Finished). length d.rows) c.cut.ensures, length-take-le 0 c.args.done.now.rows (omega arith)) in
    record {
      size = ap (λ (d : Finished). d.size) c.cut.ensures ∙ c.requires.size;
      count = none;
      finished = none_finished (doubled_matrix s) c.cut.new.self.rows none;
      clear = c.requires.clear;
    }

pub fill_row-requires-clause-row : goal.fill_row-requires-clause-row
fill_row-requires-clause-row g c = omega (arith, c.loop-row-test.true, c.len-row-end.ensures, c.requires.clear.length_is)

pub fill_row-requires-clause-clear : goal.fill_row-requires-clause-clear
fill_row-requires-clause-clear g c = c.loop-row.invariant.clear

pub eliminate_work_row-requires-clause-size : goal.eliminate_work_row-requires-clause-size
eliminate_work_row-requires-clause-size g c = c.fill_row.ensures.same ∙ c.loop-row.invariant.clear.length_is ∙ sym c.loop-row.invariant.size

pub eliminate_work_row-requires-clause-room : goal.eliminate_work_row-requires-clause-room
eliminate_work_row-requires-clause-room g c =
    let was = c.loop-row.invariant in
    omega (arith, was.count, was.size, c.loop-row-test.true, c.len-row-end.ensures, c.requires.clear.length_is)

pub loop-row-preserved : goal.loop-row-preserved
loop-row-preserved g c =
    let s : Doubled = record { case = c.args.network.case.now.parts; ports = c.args.network.ports.now; kinds = c.args.network.kinds.now } in
    let row = c.loop-row.row in
    let out = c.fill_row.new.out in
    let was = c.loop-row.invariant in
    let inside : row < 2 * length s.case.nodes = omega (arith, c.loop-row-test.true, c.len-row-end.ensures, c.requires.clear.length_is) in
    let long : length out ≡ 2 * length s.case.nodes = c.fill_row.ensures.same ∙ was.clear.length_is in
    let filled : out ≡ row_of (doubled_matrix s) row = row_is s row out inside long (λ j below. c.fill_row.ensures.value j (omega (arith, below, c.fill_row.ensures.same))) in
    let adds = c.in_default.ensures.added in
    record {
      size = adds.same_size ∙ was.size;
      count = omega (arith, adds.one_more, was.count);
      finished = adds.finished (doubled_matrix s) (next_row (doubled_matrix s) c.loop-row.done.rows row out was.finished was.count (omega (arith, inside, length-doubled_matrix s)) filled);
      clear = subst (λ n. IsClearRow n c.eliminate_work_row.new.work) long c.eliminate_work_row.ensures.clear;
    }

pub returns-in-Err-clause-size : goal.returns-in-Err-clause-size
returns-in-Err-clause-size g c = ap (λ (d : Finished). d.size) c.in-Err.ensures.kept ∙ c.loop-row.invariant.size ∙ sym c.requires.size

pub returns-in-Err-clause-clear : goal.returns-in-Err-clause-clear
returns-in-Err-clause-clear g c =
    let long : length c.fill_row.new.out ≡ 2 * length c.args.network.case.now.parts.nodes = c.fill_row.ensures.same ∙ c.loop-row.invariant.clear.length_is in
    subst (λ n. IsClearRow n c.eliminate_work_row.new.work) long c.eliminate_work_row.ensures.clear

pub node_at-requires : goal.node_at-requires
node_at-requires g c =
    omega (arith, c.loop-row-test.true, c.len-row-end.ensures, c.requires.clear.length_is, order_size c.args.network.case.now.parts c.args.network.order.now c.requires.network.order_is)

pub returns-in-Err-clause-fault : goal.returns-in-Err-clause-fault
returns-in-Err-clause-fault g c = λ right.
    let case = c.args.network.case.now.parts in
    let s : Doubled = record { case = c.args.network.case.now.parts; ports = c.args.network.ports.now; kinds = c.args.network.kinds.now } in
    let row = c.loop-row.row in
    let out = c.fill_row.new.out in
    let was = c.loop-row.invariant in
    let inside : row < 2 * length s.case.nodes = omega (arith, c.loop-row-test.true, c.len-row-end.ensures, c.requires.clear.length_is) in
    let long : length out ≡ 2 * length s.case.nodes = c.fill_row.ensures.same ∙ was.clear.length_is in
    let filled : out ≡ row_of (doubled_matrix s) row = row_is s row out inside long (λ j below. c.fill_row.ensures.value j (omega (arith, below, c.fill_row.ensures.same))) in
    let next = next_row (doubled_matrix s) c.loop-row.done.rows row out was.finished was.count (omega (arith, inside, length-doubled_matrix s)) filled in
    let is = rw was.count at (c.in-Err.ensures.fault.row_fault (doubled_matrix s) next) in
    let fault : RowFault = record { row = row; cause = c.in-Err.cause } in
    let ends = c.row_fault_ends_systems.ensures (doubled_matrix s) right fault is in
    let there : c.node_at.result ≡ node_at case (row / 2) = sym c.node_at.ensures.node ∙ order_at case c.args.network.order.now (row / 2) c.requires.network.order_is in
    let named : c.ending_at.result ≡ ending_at (node_at case (row / 2)) (cause_of c.in-Err.cause) =
    c.ending_at.ensures ∙ ap (λ (k : Cause). ending_at c.node_at.result k) c.cause_of.ensures ∙ ap (λ n. ending_at n (cause_of c.in-Err.cause)) there in
    let Wrong : Ending → Result (List ℤ) Ending = λ e. Err e in
    ap (named_ending case) ends ∙ ap Wrong (sym named)

pub returns-in-Err-clause-node : goal.returns-in-Err-clause-node
returns-in-Err-clause-node g c =
    let P : Ending → Type 0 = λ e. IsNode c.args.network.case.now.parts e.node in
    subst P (sym c.ending_at.ensures) (row_node c.args.network.case.now.parts c.args.network.order.now c.node_at.result c.requires.network.order_is c.node_at.ensures.low c.node_at.ensures.high)

pub returns-clause-size : goal.returns-clause-size
returns-clause-size g c = c.loop-row.invariant.size ∙ sym c.requires.size

pub returns-clause-clear : goal.returns-clause-clear
returns-clause-clear g c = c.loop-row.invariant.clear

pub returns-clause-finished : goal.returns-clause-finished
returns-clause-finished g c =
    let s : Doubled = record { case = c.args.network.case.now.parts; ports = c.args.network.ports.now; kinds = c.args.network.kinds.now } in
    let was = c.loop-row.invariant in
    let all : length c.loop-row.done.rows ≡ length (doubled_matrix s) = omega (arith, was.count, c.loop-row-test.false, c.loop-row.auto.row-end, c.len-row-end.ensures, c.requires.clear.length_is, length-doubled_matrix s) in
    record { all = all; finished = was.finished }
