use Rattle.emtp_laws.proofs.SampleCounts.{all_steps, samples_counted}
use Rattle.emtp_laws.proofs.runs.samples_are_counted.Goals as goal

pub returns-clause-samples : goal.returns-clause-samples
returns-clause-samples c = samples_counted c.args.case.now.parts c.args.case.now.fits

pub returns-clause-steps : goal.returns-clause-steps
returns-clause-steps c = all_steps c.args.case.now.parts
