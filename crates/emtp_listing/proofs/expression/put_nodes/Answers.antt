use Rattle.emtp_listing.proofs.Loops.{text-more}
use Rattle.emtp_listing.proofs.expression.put_nodes.Goals as goal

pub loop-node-preserved : goal.loop-node-preserved
loop-node-preserved c =
    text-more c.args.parts.now.vars c.args.formula.now.vars c.as_slice.result.now c.args.formula.now.expr c.as_slice-node-items.result.now c.loop-node.node-index _ _ c.loop-node.texts c.put_node.new.texts
    c.as_slice.ensures c.as_slice-node-items.ensures c.loop-node-test.true c.loop-node.invariant c.in_ok-put_node.ensures
