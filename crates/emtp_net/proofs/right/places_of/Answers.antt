use Rattle.std.proofs.Common.{◌≡◌, ◌∙◌, ap, sym, ◌++◌, ◌∷◌, [], map, arith}
use Rattle.std.proofs.lemmas.List.FromFn.{map-range_with_len_more}
use Rattle.std.specs.List.{range_with_len}
use Rattle.emtp_rows.specs.Nodal.{node_at}
use Rattle.emtp_net.specs.held.Rights.{place_at}
use Rattle.emtp_case.proofs.RowsOfNodes.{order_at, order_size}
use Rattle.emtp_net.proofs.right.places_of.Goals as goal

pub node_at-requires : goal.node_at-requires
node_at-requires c = omega (arith, order_size c.args.case.now.parts c.args.order.now c.requires, c.loop-row-test.true, c.len-row-end.ensures)

pub loop-row-preserved : goal.loop-row-preserved
loop-row-preserved c =
    let case = c.args.case.now.parts in
    let node : c.node_at.result ≡ node_at case c.loop-row.row = sym c.node_at.ensures.node ∙ order_at case c.args.order.now c.loop-row.row c.requires in
    let place : c.place_of.result ≡ place_at case c.loop-row.row = rw (c.as_slice.ensures, node) at c.place_of.ensures in
    c.in_ok-push.ensures.items
    ∙ ap (λ xs. xs ++ c.place_of.result ∷ []) c.loop-row.invariant
    ∙ ap (λ x. map (place_at case) (range_with_len 0 c.loop-row.row) ++ x ∷ []) place
    ∙ sym (map-range_with_len_more (place_at case) 0 c.loop-row.row c.loop-row.row (omega arith))
