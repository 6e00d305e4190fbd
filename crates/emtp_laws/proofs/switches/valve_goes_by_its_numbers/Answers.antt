use Rattle.emtp_laws.proofs.Valves.{run_goes, step_goes}
use Rattle.emtp_laws.proofs.switches.valve_goes_by_its_numbers.Goals as goal

pub returns-clause-step : goal.returns-clause-step
returns-clause-step c = step_goes c.args.case.now.parts

pub returns-clause-run : goal.returns-clause-run
returns-clause-run c = run_goes c.args.case.now.parts
