use Rattle.std.proofs.Common.{arith}
use Rattle.emtp_case.proofs.RowsOfNodes.{order_size, row_node}
use Rattle.emtp_net.proofs.names.row_fault.Goals as goal

pub node_at-node-requires : goal.node_at-node-requires
node_at-node-requires c = omega (arith, c.requires.row, order_size c.args.case.now.parts c.args.order.now c.requires.order)

pub returns-in-Range-clause-node : goal.returns-in-Range-clause-node
returns-in-Range-clause-node c = row_node c.args.case.now.parts c.args.order.now c.node_at-node.result c.requires.order c.node_at-node.ensures.low c.node_at-node.ensures.high

pub returns-in-ZeroPivot-clause-node : goal.returns-in-ZeroPivot-clause-node
returns-in-ZeroPivot-clause-node c = row_node c.args.case.now.parts c.args.order.now c.node_at-node.result c.requires.order c.node_at-node.ensures.low c.node_at-node.ensures.high
