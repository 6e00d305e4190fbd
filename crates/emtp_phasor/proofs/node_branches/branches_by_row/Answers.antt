use Rattle.std.proofs.Common.{◌∙◌, sym, arith}
use Rattle.emtp_case.proofs.RowsOfNodes.{order_at, order_size}
use Rattle.emtp_phasor.proofs.BranchLists.{lists_all, lists_more}
use Rattle.emtp_phasor.proofs.node_branches.branches_by_row.Goals as goal

pub node_at-requires : goal.node_at-requires
node_at-requires c = omega (arith, order_size c.args.case.now.parts c.args.order.now c.requires, c.loop-row-test.true, c.len-row-end.ensures)

pub loop-row-preserved : goal.loop-row-preserved
loop-row-preserved c =
    let case = c.args.case.now.parts in
    lists_more case c.loop-row.row c.node_at.result c.from_vec.result c.loop-row.rows.items c.push.new.self.items (sym c.node_at.ensures.node ∙ order_at case c.args.order.now c.loop-row.row c.requires)
    (c.from_vec.ensures ∙ c.in_ok-places.ensures) c.in_ok-push.ensures.items c.loop-row.invariant

pub returns : goal.returns
returns c = lists_all c.args.case.now.parts c.loop-row.row c.loop-row.rows.items (omega (arith, c.loop-row.auto.row-end, c.loop-row-test.false, c.len-row-end.ensures)) c.loop-row.invariant
