use Rattle.emtp_machine.proofs.RecordRanges.{records_small}
use Rattle.emtp_machine.proofs.laws.records_are_in_range.Goals as goal

pub returns : goal.returns
returns c = λ n few. records_small c.args.case.now.parts n c.args.case.now.fits few
