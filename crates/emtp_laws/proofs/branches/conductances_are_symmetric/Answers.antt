use Rattle.emtp_net.specs.System.{conductances, couplings}
use Rattle.emtp_laws.proofs.CoupledPhases.{symmetric}
use Rattle.emtp_laws.proofs.branches.conductances_are_symmetric.Goals as goal

pub returns : goal.returns
returns c = λ H n m. let case = c.args.case.now.parts in symmetric case (conductances case H) (couplings case) n m c.args.case.now.fits
