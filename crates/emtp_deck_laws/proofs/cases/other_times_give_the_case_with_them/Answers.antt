use Rattle.emtp_deck_laws.proofs.TimedCases.{other_times}
use Rattle.emtp_deck_laws.proofs.cases.other_times_give_the_case_with_them.Goals as goal

pub returns : goal.returns
returns c = other_times
