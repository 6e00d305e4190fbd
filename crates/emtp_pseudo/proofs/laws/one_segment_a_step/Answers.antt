use Rattle.emtp_pseudo.proofs.Chain.{one_segment}
use Rattle.emtp_pseudo.proofs.laws.one_segment_a_step.Goals as goal

pub returns : goal.returns
returns c = one_segment c.args.case.now.parts c.args.x.now
