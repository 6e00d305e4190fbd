use Rattle.std.proofs.Common.{rules}
use Rattle.emtp_walk.specs.Walk.{after_place}
use Rattle.emtp_walk.proofs.steps.after_place.Goals as goal

pub returns-in-None-clause-value : goal.returns-in-None-clause-value
unfolding after_place
returns-in-None-clause-value c = search rules
