use Rattle.emtp_batch.proofs.Peaks.{report_within}
use Rattle.emtp_batch.proofs.laws.peaks_are_in_range.Goals as goal

pub returns : goal.returns
returns c = report_within c.args.case.now.parts c.samples_are_in_range.ensures.small
