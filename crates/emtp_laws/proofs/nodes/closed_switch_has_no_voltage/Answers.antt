use Rattle.emtp_laws.proofs.ClosedSwitches.{ends_joined, run_joined}
use Rattle.emtp_laws.proofs.nodes.closed_switch_has_no_voltage.Goals as goal

pub returns-clause-step : goal.returns-clause-step
returns-clause-step c = λ H part made. ends_joined c.args.case.now.parts H part c.args.case.now.fits made

pub returns-clause-run : goal.returns-clause-run
returns-clause-run c = λ n. run_joined c.args.case.now.parts n c.args.case.now.fits
