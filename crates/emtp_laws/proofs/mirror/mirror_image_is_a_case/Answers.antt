use Rattle.emtp_laws.proofs.MirroredCase.{case_mirrored, mirrored_twice}
use Rattle.emtp_laws.proofs.mirror.mirror_image_is_a_case.Goals as goal

pub returns-clause-case : goal.returns-clause-case
returns-clause-case c = case_mirrored c.args.case.now.parts c.args.case.now.fits

pub returns-clause-twice : goal.returns-clause-twice
returns-clause-twice c = mirrored_twice c.args.case.now.parts
