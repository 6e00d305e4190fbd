use Rattle.emtp_laws.proofs.LoneBlocks.{alone_solved}
use Rattle.emtp_laws.proofs.control.blocks_that_stand_alone_are_exact.Goals as goal

pub returns : goal.returns
returns c = λ H known i. alone_solved c.args.case.now.parts H known i c.args.case.now.fits
