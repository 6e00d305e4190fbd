use Rattle.emtp_case.proofs.Points.{two_modes}
use Rattle.emtp_case.proofs.laws.two_modes.Goals as goal

pub returns : goal.returns
returns c = two_modes c.args.run.now c.args.modes.now c.requires.zero c.requires.positive
