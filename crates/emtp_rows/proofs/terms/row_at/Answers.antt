use Rattle.std.proofs.Common.{◌≡◌, ◌∙◌, ℕ, sym, ap, length, slice_index, arith}
use Rattle.emtp_case.specs.RowOrder.{Rows, order_of}
use Rattle.emtp_case.proofs.NodeOrder.{length-order_of}
use Rattle.emtp_rows.specs.Nodal.{node_at}
use Rattle.emtp_case.proofs.RowsOfNodes.{row_at_is, row_at_ground}
use Rattle.emtp_rows.proofs.terms.row_at.Goals as goal

pub row_of-requires-clause-high : goal.row_of-requires-clause-high
row_of-requires-clause-high c =
    let case = c.args.case.now.parts in
    let size : length c.args.order.now.nodes ≡ length (order_of case).nodes = ap (λ (o : Rows). length o.nodes) c.requires.order in
    omega (arith, size, length-order_of case, c.requires.node)

pub overflow_cast-result-else-node-eq0 : goal.overflow_cast-result-else-node-eq0
overflow_cast-result-else-node-eq0 c =
    let case = c.args.case.now.parts in
    let size : length c.args.order.now.nodes ≡ length (order_of case).nodes = ap (λ (o : Rows). length o.nodes) c.requires.order in
    omega (arith, size, length-order_of case, c.row_of.ensures.within, c.args.case.now.fits.draft.counts.nodes)

pub returns-then-node-eq0 : goal.returns-then-node-eq0
returns-then-node-eq0 c = rw c.if-node-eq0.true (c.len.ensures ∙ sym (row_at_ground c.args.case.now.parts))

pub returns-else-node-eq0 : goal.returns-else-node-eq0
returns-else-node-eq0 c =
    let case = c.args.case.now.parts in
    let size : length c.args.order.now.nodes ≡ length (order_of case).nodes = ap (λ (o : Rows). length o.nodes) c.requires.order in
    let at : (k : ℕ) → slice_index c.args.order.now.nodes k ≡ node_at case k = λ k. ap (λ (o : Rows). slice_index o.nodes k) c.requires.order in
    sym (row_at_is case c.args.node c.row_of.result (omega (arith, size, length-order_of case, c.row_of.ensures.within)) (rw (at c.row_of.result) at c.row_of.ensures.there))
