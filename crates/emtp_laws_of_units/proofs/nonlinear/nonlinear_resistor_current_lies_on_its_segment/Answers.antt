use Rattle.emtp_laws_of_units.proofs.NonlinearResistors.{case_lies}
use Rattle.emtp_laws_of_units.proofs.nonlinear.nonlinear_resistor_current_lies_on_its_segment.Goals as goal

pub returns : goal.returns
returns c = case_lies c.args.case.now.parts c.args.case.now.fits
