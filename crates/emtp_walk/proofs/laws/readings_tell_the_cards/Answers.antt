use Rattle.emtp_walk.proofs.ReadingsTell.{are_read}
use Rattle.emtp_walk.proofs.laws.readings_tell_the_cards.Goals as goal

pub returns : goal.returns
returns c = are_read
