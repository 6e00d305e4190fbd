use Rattle.emtp_case.proofs.Points.{one_more_point}
use Rattle.emtp_case.proofs.laws.one_more_point.Goals as goal

pub returns : goal.returns
returns c = one_more_point c.args.reactor c.args.dt c.args.points.now c.args.p c.requires.points c.requires.last
