use Rattle.emtp_batch.proofs.OwnTimes.{stars_keep}
use Rattle.emtp_batch.proofs.laws.stars_keep_the_cards.Goals as goal

pub returns : goal.returns
returns c = stars_keep
