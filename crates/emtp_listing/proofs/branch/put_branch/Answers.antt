use Rattle.emtp_listing.proofs.Chains.{then}
use Rattle.emtp_listing.proofs.branch.put_branch.Goals as goal

pub returns : goal.returns
returns c = then c.in_ok-put_kind.ensures (then c.in_ok-put_end.ensures c.in_ok-put_points.ensures)
