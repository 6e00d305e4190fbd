use Rattle.emtp_listing.proofs.Cut.{lines-same}
use Rattle.emtp_listing.proofs.laws.lines_differ.Goals as goal

pub returns : goal.returns
returns c = lines-same
