use Rattle.emtp_switch.proofs.Plans.{ends_more}
use Rattle.emtp_switch.proofs.plan.find_ends.Goals as goal

pub loop-node-preserved : goal.loop-node-preserved
loop-node-preserved c = ends_more c.args.parts.now c.loop-node.node c.loop-node.ends.items c.push.new.self.items c.of.result c.loop-node.invariant c.of.ensures c.in_ok-push.ensures.items
