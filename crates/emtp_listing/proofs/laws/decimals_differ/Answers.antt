use Rattle.emtp_listing.proofs.Numbers.{fixed-same}
use Rattle.emtp_listing.proofs.laws.decimals_differ.Goals as goal

pub returns : goal.returns
returns c = fixed-same
