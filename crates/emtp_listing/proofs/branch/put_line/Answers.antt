use Rattle.emtp_listing.proofs.Chains.{last, then}
use Rattle.emtp_listing.proofs.branch.put_line.Goals as goal

pub returns : goal.returns
returns c = then c.in_ok-put_head.ensures (then c.in_ok-put_word.ensures (then c.in_ok-put_node.ensures (then c.in_ok-put_node-2.ensures (then c.in_ok-put_quantity.ensures (then c.in_ok-put_quantity-2.ensures (last c.in_ok-put_quantity-3.ensures))))))
