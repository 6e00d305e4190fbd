use Rattle.emtp_listing.proofs.Chains.{then}
use Rattle.emtp_listing.proofs.control.put_inputs.Goals as goal

pub returns : goal.returns
returns c = then c.in_ok-put_count.ensures c.in_ok-put_each_input.ensures
