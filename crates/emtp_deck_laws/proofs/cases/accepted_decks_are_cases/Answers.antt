use Rattle.emtp_deck_laws.proofs.AcceptedDecks.{deck_is_case}
use Rattle.emtp_deck_laws.proofs.ApartNames.{deck_apart}
use Rattle.emtp_deck_laws.proofs.cases.accepted_decks_are_cases.Goals as goal

pub returns-clause-case : goal.returns-clause-case
returns-clause-case c = deck_is_case

pub returns-clause-apart : goal.returns-clause-apart
returns-clause-apart c = deck_apart
