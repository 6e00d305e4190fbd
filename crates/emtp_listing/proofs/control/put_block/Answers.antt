use Rattle.emtp_listing.proofs.Chains.{then}
use Rattle.emtp_listing.proofs.control.put_block.Goals as goal

pub returns : goal.returns
returns c = then c.in_ok-put_block_card.ensures (then c.in_ok-put_end.ensures (then c.in_ok-put_polynomial.ensures (then c.in_ok-put_end-2.ensures (then c.in_ok-put_polynomial-2.ensures c.in_ok-put_end-3.ensures))))
