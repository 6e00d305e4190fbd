use Rattle.emtp_machine.proofs.RecordRanges.{samples_in_range}
use Rattle.emtp_machine.proofs.laws.samples_are_in_range.Goals as goal

pub returns : goal.returns
returns c = samples_in_range c.args.case.now.parts c.args.case.now.fits
