use Rattle.emtp_laws_of_units.proofs.LineRuns.{run_between}
use Rattle.emtp_laws_of_units.proofs.travel.lossless_line_delays_between_two_steps.Goals as goal

pub returns : goal.returns
returns c = run_between c.args.case.now.parts c.args.case.now.fits
