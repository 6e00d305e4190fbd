use Rattle.emtp_laws_of_units.proofs.Reactors.{case_links}
use Rattle.emtp_laws_of_units.proofs.reactor.reactor_flux_follows_the_trapezoidal_rule.Goals as goal

pub returns : goal.returns
returns c = case_links c.args.case.now.parts
