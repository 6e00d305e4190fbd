use Rattle.emtp_elim.proofs.OddSolutions.{outcome_turned}
use Rattle.emtp_elim.proofs.laws.elimination_is_odd.Goals as goal

pub returns : goal.returns
returns c = outcome_turned
