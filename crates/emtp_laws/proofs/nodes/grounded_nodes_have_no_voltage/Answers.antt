use Rattle.emtp_laws.proofs.ClosedSwitches.{run_grounded, step_grounded}
use Rattle.emtp_laws.proofs.nodes.grounded_nodes_have_no_voltage.Goals as goal

pub returns-clause-step : goal.returns-clause-step
returns-clause-step c = step_grounded c.args.case.now.parts

pub returns-clause-run : goal.returns-clause-run
returns-clause-run c = run_grounded c.args.case.now.parts
