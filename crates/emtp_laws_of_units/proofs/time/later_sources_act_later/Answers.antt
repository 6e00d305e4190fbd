use Rattle.emtp_laws_of_units.proofs.LaterRuns.{part_later, rest_upto, same_later}
use Rattle.emtp_laws_of_units.proofs.RestingRuns.{has_no_sign}
use Rattle.emtp_laws_of_units.proofs.time.later_sources_act_later.Goals as goal

pub mirrored_step-requires : goal.mirrored_step-requires
mirrored_step-requires c = record { plain = has_no_sign c.args.case.now.parts c.requires.plain }

pub returns-clause-rest : goal.returns-clause-rest
returns-clause-rest c = λ k n low running. rest_upto c.args.case.now.parts k c.args.case.now.fits c.requires.plain c.mirrored_step.ensures n low running

pub returns-clause-records : goal.returns-clause-records
returns-clause-records c = λ k n there here. same_later c.args.case.now.parts k c.args.case.now.fits c.requires.plain c.mirrored_step.ensures n there here

pub returns-clause-faults : goal.returns-clause-faults
returns-clause-faults c = λ k n there here. part_later c.args.case.now.parts k c.args.case.now.fits c.requires.plain c.mirrored_step.ensures n there here
