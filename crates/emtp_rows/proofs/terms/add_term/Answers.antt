use Rattle.std.proofs.Common.{◌≡◌, ℕ, ap, length, slice_index, arith}
use Rattle.emtp_case.specs.RowOrder.{Rows, order_of}
use Rattle.emtp_case.proofs.NodeOrder.{length-order_of}
use Rattle.emtp_rows.specs.Nodal.{node_at}
use Rattle.emtp_case.proofs.RowsOfNodes.{IsRowOf}
use Rattle.emtp_rows.proofs.TermSteps.{adds_ground, adds_term}
use Rattle.emtp_rows.proofs.terms.add_term.Goals as goal

pub row_of-column-requires-clause-high : goal.row_of-column-requires-clause-high
row_of-column-requires-clause-high c =
    let case = c.args.case.now.parts in
    let size : length c.args.order.now.nodes ≡ length (order_of case).nodes = ap (λ (o : Rows). length o.nodes) c.requires.order in
    omega (arith, size, length-order_of case, c.requires.node)

pub overflow_cast-column : goal.overflow_cast-column
overflow_cast-column c =
    let case = c.args.case.now.parts in
    let size : length c.args.order.now.nodes ≡ length (order_of case).nodes = ap (λ (o : Rows). length o.nodes) c.requires.order in
    omega (arith, size, length-order_of case, c.row_of-column.ensures.within, c.args.case.now.fits.draft.counts.nodes)

pub returns-in_ok-push : goal.returns-in_ok-push
returns-in_ok-push c =
    let case = c.args.case.now.parts in
    let size : length c.args.order.now.nodes ≡ length (order_of case).nodes = ap (λ (o : Rows). length o.nodes) c.requires.order in
    let row = c.row_of-column.result in
    let at : (k : ℕ) → slice_index c.args.order.now.nodes k ≡ node_at case k = λ k. ap (λ (o : Rows). slice_index o.nodes k) c.requires.order in
    let is : IsRowOf case c.args.node row = record {
      within = omega (arith, size, length-order_of case, c.row_of-column.ensures.within);
      there = rw (at row) at c.row_of-column.ensures.there;
      only = λ k below e. c.row_of-column.ensures.only k (omega (arith, below, size, length-order_of case)) (rw (at k) e);
    } in
    adds_term case c.args.node row c.args.amount c.args.terms.now c.push.new.self is c.requires.amount c.in_ok-push.ensures.ok

pub returns-else-node-ne0 : goal.returns-else-node-ne0
returns-else-node-ne0 c = rw c.if-node-ne0.false (adds_ground c.args.case.now.parts c.args.amount c.args.terms.now)
