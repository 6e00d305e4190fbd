use Rattle.emtp_laws_of_units.proofs.ResistorNodes.{run_obeys}
use Rattle.emtp_laws_of_units.proofs.resistor.resistor_has_the_voltage_of_its_current.Goals as goal

pub returns : goal.returns
returns c = run_obeys c.args.case.now.parts c.args.case.now.fits
