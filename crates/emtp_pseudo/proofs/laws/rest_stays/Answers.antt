use Rattle.emtp_pseudo.proofs.Chain.{rest_stays}
use Rattle.emtp_pseudo.proofs.laws.rest_stays.Goals as goal

pub returns : goal.returns
returns c = λ past e. rest_stays c.args.case.now.parts c.args.x.now past c.requires e
