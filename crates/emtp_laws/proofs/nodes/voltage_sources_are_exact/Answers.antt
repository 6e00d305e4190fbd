use Rattle.emtp_laws.proofs.ExactSources.{run_kept, sources_kept}
use Rattle.emtp_laws.proofs.nodes.voltage_sources_are_exact.Goals as goal

pub returns-clause-step : goal.returns-clause-step
returns-clause-step c = λ H part made. sources_kept c.args.case.now.parts H part c.args.case.now.fits made

pub returns-clause-run : goal.returns-clause-run
returns-clause-run c = λ n. run_kept c.args.case.now.parts n c.args.case.now.fits
