use Rattle.emtp_line.proofs.Physics.{lossless}
use Rattle.emtp_line.proofs.laws.without_loss.Goals as goal

pub returns : goal.returns
returns c = lossless c.args.dt c.args.zc c.args.delay c.requires
