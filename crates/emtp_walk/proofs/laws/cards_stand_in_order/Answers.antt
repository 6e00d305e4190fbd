use Rattle.emtp_walk.proofs.Order.{cards_rise}
use Rattle.emtp_walk.proofs.laws.cards_stand_in_order.Goals as goal

pub returns : goal.returns
returns c = cards_rise
