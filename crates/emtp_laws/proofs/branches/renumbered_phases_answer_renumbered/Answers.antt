use Rattle.emtp_laws.proofs.RenumberedPhases.{cycled_everywhere, exchanged_everywhere}
use Rattle.emtp_laws.proofs.branches.renumbered_phases_answer_renumbered.Goals as goal

pub returns-clause-cycled : goal.returns-clause-cycled
returns-clause-cycled c = cycled_everywhere

pub returns-clause-exchanged : goal.returns-clause-exchanged
returns-clause-exchanged c = exchanged_everywhere
