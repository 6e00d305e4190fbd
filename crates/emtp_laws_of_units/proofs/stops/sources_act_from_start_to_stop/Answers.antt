use Rattle.emtp_laws_of_units.proofs.SourceTimes.{run_acts, step_acts}
use Rattle.emtp_laws_of_units.proofs.stops.sources_act_from_start_to_stop.Goals as goal

pub returns-clause-step : goal.returns-clause-step
returns-clause-step c = step_acts c.args.case.now.parts

pub returns-clause-run : goal.returns-clause-run
returns-clause-run c = λ n. run_acts c.args.case.now.parts n c.args.case.now.fits
