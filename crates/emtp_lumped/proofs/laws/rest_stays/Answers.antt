use Rattle.emtp_lumped.proofs.Chain.{rest_stays}
use Rattle.emtp_lumped.proofs.laws.rest_stays.Goals as goal

pub returns : goal.returns
returns c = rest_stays c.args.companion.now
