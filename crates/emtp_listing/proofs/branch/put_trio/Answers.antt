use Rattle.emtp_listing.proofs.Chains.{last, one, then}
use Rattle.emtp_listing.proofs.branch.put_trio.Goals as goal

pub returns : goal.returns
returns c = then (one c.in_ok-put.ensures) (then c.in_ok-put_place.ensures (then c.in_ok-put_quantity.ensures (then c.in_ok-put_quantity-2.ensures (then c.in_ok-put_quantity-3.ensures (then c.in_ok-put_quantity-4.ensures (then c.in_ok-put_quantity-5.ensures (last c.in_ok-put_quantity-6.ensures)))))))
