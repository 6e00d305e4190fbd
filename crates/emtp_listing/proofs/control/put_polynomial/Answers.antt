use Rattle.emtp_listing.proofs.Chains.{one, then}
use Rattle.emtp_listing.proofs.control.put_polynomial.Goals as goal

pub returns : goal.returns
returns c = then (one c.in_ok-put.ensures) c.in_ok-put_powers.ensures
