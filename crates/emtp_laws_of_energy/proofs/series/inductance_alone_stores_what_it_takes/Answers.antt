use Rattle.emtp_laws_of_energy.proofs.Energies.{alone_balances}
use Rattle.emtp_laws_of_energy.proofs.Courses.{some_step}
use Rattle.emtp_laws_of_energy.proofs.series.inductance_alone_stores_what_it_takes.Goals as goal

pub returns : goal.returns
returns c = λ x m past. alone_balances c.args.case.now.parts.run.dt x m past (some_step c.args.case.now.parts.run.dt c.args.case.now.fits.draft.run.dt)
