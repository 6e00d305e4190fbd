use Rattle.emtp_laws.proofs.LimitsOfRuns.{run_keeps_limits}
use Rattle.emtp_laws.proofs.control.block_variables_lie_between_their_limits.Goals as goal

pub returns : goal.returns
returns c = λ n. run_keeps_limits c.args.case.now.parts n c.args.case.now.fits
