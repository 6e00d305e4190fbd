use Rattle.std.proofs.Common.{◌≡◌, ◌∙◌, ℕ, ◌<◌, ◌≤◌, [], ap, sym, length, slice_index, arith}
use Rattle.std.proofs.lemmas.List.{get_or_default}
use Rattle.std.proofs.lemmas.Result.{on_ok_weaker}
use Rattle.emtp_case.specs.RowOrder.{Rows, order_of}
use Rattle.emtp_case.proofs.NodeOrder.{length-order_of}
use Rattle.emtp_case.proofs.RowsOfNodes.{IsRowOf}
use Rattle.emtp_rows.specs.Nodal.{end_node, node_at}
use Rattle.emtp_rows.specs.held.Terms.{end_terms}
use Rattle.emtp_case.specs.held.Sizes.{sizes_of}
use Rattle.emtp_rows.proofs.Phases.{end_there}
use Rattle.emtp_rows.proofs.TermSteps.{ground_added, row_added}
use Rattle.emtp_rows.proofs.terms.add_in_row.Goals as goal

pub row_of-row-requires-clause-high : goal.row_of-row-requires-clause-high
row_of-row-requires-clause-high c =
    let case = c.args.case.now.parts in
    let size : length c.args.order.now.nodes ≡ length (order_of case).nodes = ap (λ (o : Rows). length o.nodes) c.requires.order in
    let there : c.end_node-node.result ≤ length case.nodes = rw c.end_node-node.ensures (end_there case.run (sizes_of case) case.points c.args.second c.args.branch.now c.requires.fits) in
    omega (arith, size, length-order_of case, there)

pub offset_bounds-rows-row : goal.offset_bounds-rows-row
offset_bounds-rows-row c =
    let case = c.args.case.now.parts in
    let size : length c.args.order.now.nodes ≡ length (order_of case).nodes = ap (λ (o : Rows). length o.nodes) c.requires.order in
    omega (arith, size, length-order_of case, c.row_of-row.ensures.within, c.args.case.now.fits.draft.counts.nodes)

pub bounds-rows-row : goal.bounds-rows-row
bounds-rows-row c =
    let case = c.args.case.now.parts in
    let size : length c.args.order.now.nodes ≡ length (order_of case).nodes = ap (λ (o : Rows). length o.nodes) c.requires.order in
    omega (arith, size, length-order_of case, c.row_of-row.ensures.within, c.requires.count)

pub returns-then-node-eq0-clause-adds : goal.returns-then-node-eq0-clause-adds
returns-then-node-eq0-clause-adds c =
    let case = c.args.case.now.parts in
    let node : end_node c.args.second c.args.branch.now ≡ 0 = sym c.end_node-node.ensures ∙ c.if-node-eq0.true in
    rw node (ground_added case (end_terms case c.args.at c.args.second c.args.branch.now) c.args.rows.now c.requires.count)

pub returns-clause-adds : goal.returns-clause-adds
returns-clause-adds c =
    let case = c.args.case.now.parts in
    let size : length c.args.order.now.nodes ≡ length (order_of case).nodes = ap (λ (o : Rows). length o.nodes) c.requires.order in
    let row = c.row_of-row.result in
    let at : (k : ℕ) → slice_index c.args.order.now.nodes k ≡ node_at case k = λ k. ap (λ (o : Rows). slice_index o.nodes k) c.requires.order in
    let is : IsRowOf case c.end_node-node.result row = record {
      within = omega (arith, size, length-order_of case, c.row_of-row.ensures.within);
      there = rw (at row) at c.row_of-row.ensures.there;
      only = λ k below e. c.row_of-row.ensures.only k (omega (arith, below, size, length-order_of case)) (rw (at k) e);
    } in
    let node = c.end_node-node.ensures in
    let read = get_or_default c.args.rows.now row c.index-rows-row.result [] (omega (arith, is.within, c.requires.count)) in
    rw (← node) (on_ok_weaker c.add_end.result (λ adds. row_added case c.end_node-node.result row _ c.args.rows.now _ c.requires.count is (rw read at adds)) c.add_end.ensures)
