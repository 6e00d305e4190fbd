use Rattle.emtp_laws_of_units.proofs.LossyLines.{run_mixes}
use Rattle.emtp_laws_of_units.proofs.losses.line_with_losses_mixes_its_waves.Goals as goal

pub returns : goal.returns
returns c = run_mixes c.args.case.now.parts c.args.case.now.fits
