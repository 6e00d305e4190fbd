use Rattle.emtp_lumped.specs.Companion.{companion_of}
use Rattle.emtp_laws.proofs.SeriesVoltages.{case_adds_up, rest_has_its_history}
use Rattle.emtp_laws.proofs.branches.series_voltage_is_the_sum_of_its_drops.Goals as goal

pub returns-clause-rest : goal.returns-clause-rest
returns-clause-rest c = λ x. rest_has_its_history (companion_of c.args.case.now.parts.run.dt x)

pub returns-clause-step : goal.returns-clause-step
returns-clause-step c = case_adds_up c.args.case.now.parts c.args.case.now.fits
