use Rattle.emtp_laws.proofs.EndNames.{end_named}
use Rattle.emtp_laws.proofs.runs.ends_name_what_they_blame.Goals as goal

pub returns : goal.returns
returns c = end_named c.args.case.now.parts c.args.case.now.fits
