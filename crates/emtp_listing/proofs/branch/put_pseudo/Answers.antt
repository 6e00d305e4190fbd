use Rattle.emtp_listing.proofs.Chains.{last, reword, then}
use Rattle.emtp_listing.proofs.branch.put_pseudo.Goals as goal

pub returns : goal.returns
returns c = then c.in_ok-put_head.ensures (then (reword c.pseudo_word.ensures c.in_ok-put_word.ensures) (then c.in_ok-put_node.ensures (then c.in_ok-put_node-2.ensures (then c.in_ok-put_place.ensures (last c.in_ok-put_count.ensures)))))
