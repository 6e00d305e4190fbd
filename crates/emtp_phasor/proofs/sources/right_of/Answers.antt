use Rattle.std.proofs.Common.{arith}
use Rattle.emtp_case.proofs.RowsOfNodes.{order_size}
use Rattle.emtp_phasor.proofs.sources.right_of.Goals as goal

pub bounds : goal.bounds
bounds c = omega (arith, c.requires.row, c.requires.network.kinds_count)

pub node_at-node-requires : goal.node_at-node-requires
node_at-node-requires c = omega (arith, order_size c.args.network.case.now.parts c.args.network.order.now c.requires.network.order_is, c.requires.row)
