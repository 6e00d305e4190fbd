use Rattle.emtp_net.specs.System.{conductances, couplings}
use Rattle.emtp_laws.proofs.NodalConductances.{sum_over_nodes}
use Rattle.emtp_laws.proofs.branches.conductances_add_up_to_zero.Goals as goal

pub returns : goal.returns
returns c = λ H n. let case = c.args.case.now.parts in sum_over_nodes case (conductances case H) (couplings case) n c.args.case.now.fits c.requires.plain
