use Rattle.emtp_laws.proofs.MirroredBranches.{has_curves}
use Rattle.emtp_laws.proofs.MirroredControl.{records_opposite}
use Rattle.emtp_laws.proofs.mirror.mirrored_run_with_control.Goals as goal

pub returns : goal.returns
returns c = λ n running there. let case = c.args.case.now.parts in records_opposite case n c.requires.plain (has_curves case case.branches c.args.case.now.fits.draft.network.branches) running there
