use Rattle.emtp_batch.proofs.OwnTimes.{report_there}
use Rattle.emtp_batch.proofs.laws.each_row_stands_alone.Goals as goal

pub returns : goal.returns
returns c = report_there c.args.case.now.parts
