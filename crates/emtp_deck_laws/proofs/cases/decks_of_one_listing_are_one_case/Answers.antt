use Rattle.emtp_deck_laws.proofs.AcceptedDecks.{deck_is_case}
use Rattle.emtp_deck_laws.proofs.ApartNames.{deck_apart}
use Rattle.emtp_deck_laws.proofs.cases.decks_of_one_listing_are_one_case.Goals as goal
use Rattle.emtp_listing.proofs.Same.{case-listed-same}

pub returns : goal.returns
returns c xs ys p q e f fits other same =
    let apart = deck_apart xs p e in
    case-listed-same p q (deck_is_case xs p e) (deck_is_case ys q f) fits other apart.nodes apart.vars same
