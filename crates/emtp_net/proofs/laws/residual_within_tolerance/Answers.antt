use Rattle.emtp_net.proofs.Runs.{residual_small}
use Rattle.emtp_net.proofs.laws.residual_within_tolerance.Goals as goal

pub returns : goal.returns
returns c = λ H part made row below. residual_small c.args.case.now.parts H part made row below
