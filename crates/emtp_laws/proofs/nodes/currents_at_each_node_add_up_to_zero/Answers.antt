use Rattle.emtp_laws.proofs.NodeCurrents.{current_law, run_law}
use Rattle.emtp_laws.proofs.nodes.currents_at_each_node_add_up_to_zero.Goals as goal

pub returns-clause-step : goal.returns-clause-step
returns-clause-step c = λ H part made. current_law c.args.case.now.parts H part c.args.case.now.fits made

pub returns-clause-run : goal.returns-clause-run
returns-clause-run c = λ n. run_law c.args.case.now.parts n c.args.case.now.fits
