use Rattle.emtp_case.proofs.NodeOrder.{one_more_key}
use Rattle.emtp_case.proofs.row_order.keys_of.Goals as goal

pub loop-at-preserved : goal.loop-at-preserved
loop-at-preserved c = one_more_key c.args.parts.now c.loop-at.at c.loop-at.keys.items c.push.new.self.items c.key_of.result c.loop-at.invariant c.key_of.ensures c.in_ok-push.ensures.items
