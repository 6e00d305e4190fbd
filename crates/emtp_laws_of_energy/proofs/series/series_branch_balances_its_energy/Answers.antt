use Rattle.emtp_laws_of_energy.proofs.Energies.{balances, balances_since}
use Rattle.emtp_laws_of_energy.proofs.Courses.{some_step}
use Rattle.emtp_laws_of_energy.proofs.series.series_branch_balances_its_energy.Goals as goal

pub returns-clause-from_rest : goal.returns-clause-from_rest
returns-clause-from_rest c = λ x past. balances c.args.case.now.parts.run.dt x past (some_step c.args.case.now.parts.run.dt c.args.case.now.fits.draft.run.dt)

pub returns-clause-since : goal.returns-clause-since
returns-clause-since c = λ x new past. balances_since c.args.case.now.parts.run.dt x new past (some_step c.args.case.now.parts.run.dt c.args.case.now.fits.draft.run.dt)
