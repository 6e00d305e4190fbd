use Rattle.emtp_laws.proofs.ResistorRuns.{run_takes}
use Rattle.emtp_laws.proofs.branches.resistor_takes_power.Goals as goal

pub returns : goal.returns
returns c = λ n b x at. run_takes c.args.case.now.parts n b x c.args.case.now.fits at
