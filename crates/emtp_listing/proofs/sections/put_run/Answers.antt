use Rattle.emtp_listing.proofs.Chains.{ended, last, one, then}
use Rattle.emtp_listing.proofs.sections.put_run.Goals as goal

pub returns : goal.returns
returns c = ended (then (one c.in_ok-put.ensures) (then c.in_ok-put_quantity.ensures (then c.in_ok-put_limited.ensures (then c.in_ok-put_count.ensures (last c.in_ok-put_quantity-2.ensures))))) c.in_ok-put_end.ensures
