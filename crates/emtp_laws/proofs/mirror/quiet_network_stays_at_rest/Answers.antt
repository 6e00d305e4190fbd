use Rattle.emtp_laws.proofs.MirroredBranches.{has_curves}
use Rattle.emtp_laws.proofs.Quiet.{stays_at_rest}
use Rattle.emtp_laws.proofs.mirror.quiet_network_stays_at_rest.Goals as goal

pub returns : goal.returns
returns c = λ n k. let case = c.args.case.now.parts in stays_at_rest case n k c.requires.plain (has_curves case case.branches c.args.case.now.fits.draft.network.branches) c.requires.control c.requires.quiet
