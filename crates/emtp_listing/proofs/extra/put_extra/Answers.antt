use Rattle.emtp_listing.proofs.Chains.{then}
use Rattle.emtp_listing.proofs.extra.put_extra.Goals as goal

pub returns : goal.returns
returns c = then c.in_ok-put_extra_card.ensures (then c.in_ok-put_end.ensures c.in_ok-put_extra_points.ensures)
