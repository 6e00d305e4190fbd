use Rattle.emtp_deck_laws.proofs.RefusedSwitches.{deck_refused, first_refused}
use Rattle.emtp_deck_laws.proofs.faults.the_first_line_that_cannot_be_read_is_refused.Goals as goal

pub returns-clause-refused : goal.returns-clause-refused
returns-clause-refused c = deck_refused

pub returns-clause-first : goal.returns-clause-first
returns-clause-first c = first_refused
