use Rattle.emtp_laws.proofs.Breakers.{idle_switches, run_idle}
use Rattle.emtp_laws.proofs.switches.idle_switches_have_no_current.Goals as goal

pub returns-clause-step : goal.returns-clause-step
returns-clause-step c = idle_switches c.args.case.now.parts

pub returns-clause-run : goal.returns-clause-run
returns-clause-run c = run_idle c.args.case.now.parts
