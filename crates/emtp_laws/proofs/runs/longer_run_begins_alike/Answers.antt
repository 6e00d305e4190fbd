use Rattle.emtp_laws.proofs.LongerRuns.{history_same}
use Rattle.emtp_laws.proofs.LongerSamples.{samples_begin}
use Rattle.emtp_laws.proofs.runs.longer_run_begins_alike.Goals as goal

pub returns-clause-records : goal.returns-clause-records
returns-clause-records c = history_same c.args.case.now.parts

pub returns-clause-samples : goal.returns-clause-samples
returns-clause-samples c = samples_begin c.args.case.now.parts
