use Rattle.std.proofs.Common.{arith}
use Rattle.emtp_case.proofs.RowsOfNodes.{order_size, row_node}
use Rattle.emtp_phasor.proofs.voltages.judge_volts.Goals as goal

pub node_at-requires : goal.node_at-requires
node_at-requires c = omega (arith, c.in-Err.ensures.there, order_size c.args.network.case.now.parts c.args.network.order.now c.requires.network.order_is)

pub returns-in-Err-clause-node : goal.returns-in-Err-clause-node
returns-in-Err-clause-node c = row_node c.args.network.case.now.parts c.args.network.order.now c.node_at.result c.requires.network.order_is c.node_at.ensures.low c.node_at.ensures.high

pub first_out-requires-clause-ports : goal.first_out-requires-clause-ports
first_out-requires-clause-ports c = c.requires.network.ports_count

pub first_out-requires-clause-small : goal.first_out-requires-clause-small
first_out-requires-clause-small c = c.requires.network.small
