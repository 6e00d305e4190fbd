use Rattle.emtp_tail.proofs.Redoing.{first_change_none, first_change_same, first_change_law, first_change_is}
use Rattle.emtp_tail.proofs.laws.first_change_is_least.Goals as goal

pub returns-clause-none : goal.returns-clause-none
returns-clause-none c = first_change_none

pub returns-clause-same : goal.returns-clause-same
returns-clause-same c = first_change_same

pub returns-clause-least : goal.returns-clause-least
returns-clause-least c = first_change_law

pub returns-clause-only : goal.returns-clause-only
returns-clause-only c = first_change_is
