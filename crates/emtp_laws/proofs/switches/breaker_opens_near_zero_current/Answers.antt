use Rattle.emtp_laws.proofs.Breakers.{run_opens}
use Rattle.emtp_laws.proofs.OpenSwitches.{opens_rightly}
use Rattle.emtp_laws.proofs.switches.breaker_opens_near_zero_current.Goals as goal

pub returns-clause-step : goal.returns-clause-step
returns-clause-step c = opens_rightly c.args.case.now.parts

pub returns-clause-run : goal.returns-clause-run
returns-clause-run c = run_opens c.args.case.now.parts
