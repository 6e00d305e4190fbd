use Rattle.emtp_case.proofs.Points.{one_more_pair}
use Rattle.emtp_case.proofs.laws.one_more_pair.Goals as goal

pub returns : goal.returns
returns c = one_more_pair c.args.points.now c.args.p c.requires.points c.requires.next
