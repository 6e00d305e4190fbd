use Rattle.emtp_machine.proofs.SampleRecords.{are_of}
use Rattle.emtp_machine.proofs.laws.samples_balance.Goals as goal

pub returns : goal.returns
returns c = are_of c.args.case.now.parts c.args.case.now.fits.draft.run.some_every
