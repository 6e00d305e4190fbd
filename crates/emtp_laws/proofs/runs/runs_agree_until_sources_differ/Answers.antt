use Rattle.emtp_laws.proofs.Causality.{agree_upto, samples_agree}
use Rattle.emtp_laws.proofs.runs.runs_agree_until_sources_differ.Goals as goal

pub returns-clause-records : goal.returns-clause-records
returns-clause-records c = agree_upto c.args.step c.args.case.now.parts c.args.other.now.parts c.requires.later

pub returns-clause-samples : goal.returns-clause-samples
returns-clause-samples c = samples_agree c.args.step c.args.case.now.parts c.args.other.now.parts c.requires.later
