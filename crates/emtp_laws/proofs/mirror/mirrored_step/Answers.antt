use Rattle.emtp_laws.proofs.MirroredBranches.{has_curves}
use Rattle.emtp_laws.proofs.MirroredSteps.{part_mirrored}
use Rattle.emtp_laws.proofs.mirror.mirrored_step.Goals as goal

pub returns : goal.returns
returns c = λ H. let case = c.args.case.now.parts in part_mirrored case H c.requires.plain (has_curves case case.branches c.args.case.now.fits.draft.network.branches)
