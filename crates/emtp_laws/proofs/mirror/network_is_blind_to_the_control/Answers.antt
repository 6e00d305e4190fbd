use Rattle.emtp_laws.proofs.MirroredBranches.{has_curves}
use Rattle.emtp_laws.proofs.MirroredSteps.{blind}
use Rattle.emtp_laws.proofs.mirror.network_is_blind_to_the_control.Goals as goal

pub returns : goal.returns
returns c = λ H. let case = c.args.case.now.parts in blind case H c.requires.plain (has_curves case case.branches c.args.case.now.fits.draft.network.branches)
