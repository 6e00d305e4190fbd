use Rattle.emtp_tacs.proofs.NoCards.{no_cards}
use Rattle.emtp_tacs.proofs.laws.no_cards_change_nothing.Goals as goal

pub returns : goal.returns
returns c = λ H m. no_cards c.args.case.now.parts H m c.requires
