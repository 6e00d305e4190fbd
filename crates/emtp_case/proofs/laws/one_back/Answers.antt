use Rattle.emtp_case.proofs.Records.{one_back}
use Rattle.emtp_case.proofs.laws.one_back.Goals as goal

pub returns : goal.returns
returns c = one_back
