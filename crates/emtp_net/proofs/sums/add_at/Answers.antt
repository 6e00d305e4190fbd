use Rattle.std.proofs.Common.{◌≡◌, ◌<◌, length, to_z, of_z, arith}
use mir.Syntax.{w128}
use Rattle.std.proofs.lemmas.Int.{ints}
use Rattle.emtp_case.proofs.RowsOfNodes.{order_size, row_read}
use Rattle.emtp_net.proofs.Nodes.{node_set, ground_none}
use Rattle.emtp_net.proofs.sums.add_at.Goals as goal

pub row_of-row-requires-clause-high : goal.row_of-row-requires-clause-high
row_of-row-requires-clause-high c = omega (arith, order_size c.args.case.now.parts c.args.order.now c.requires.order, c.requires.node)

pub add_to-requires-clause-place : goal.add_to-requires-clause-place
add_to-requires-clause-place c = omega (arith, order_size c.args.case.now.parts c.args.order.now c.requires.order, c.row_of-row.ensures.within, c.requires.out)

pub add_to-requires-clause-entry : goal.add_to-requires-clause-entry
add_to-requires-clause-entry c =
    let inside : c.row_of-row.result < length c.args.out.now = omega (arith, order_size c.args.case.now.parts c.args.order.now c.requires.order, c.row_of-row.ensures.within, c.requires.out) in
    omega (arith, c.requires.bound c.row_of-row.result inside)

pub returns-then-node-ne0 : goal.returns-then-node-ne0
returns-then-node-ne0 c = λ j below.
    let case = c.args.case.now.parts in
    let is = row_read case c.args.order.now c.args.node c.row_of-row.result c.requires.order c.row_of-row.ensures.within c.row_of-row.ensures.there c.row_of-row.ensures.only in
    let wide : to_z w128 (of_z w128 c.args.amount) ≡ c.args.amount = omega (arith, ints, c.requires.small) in
    let set = rw wide at c.add_to.ensures in
    rw set (node_set case c.args.out.now c.args.node c.row_of-row.result j c.args.amount c.requires.out is below)

pub returns-else-node-ne0 : goal.returns-else-node-ne0
returns-else-node-ne0 c = λ j below. rw c.if-node-ne0.false (ground_none c.args.case.now.parts c.args.out.now j c.args.amount c.requires.out below)
