use Rattle.emtp_line.proofs.Physics.{same_histories}
use Rattle.emtp_line.proofs.laws.not_before.Goals as goal

pub returns : goal.returns
returns c = same_histories c.args.mode.now
