use Rattle.emtp_listing.proofs.Chains.{reword, then}
use Rattle.emtp_listing.proofs.switch.put_switch.Goals as goal

pub returns : goal.returns
returns c = then c.in_ok-put_head.ensures (then (reword c.switch_word.ensures c.in_ok-put_word.ensures) (then c.in_ok-put_node.ensures (then c.in_ok-put_node-2.ensures c.in_ok-put_kind.ensures)))
