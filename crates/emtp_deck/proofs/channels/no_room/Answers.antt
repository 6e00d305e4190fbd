use Rattle.std.proofs.Common.{rules}
use Rattle.emtp_deck.proofs.channels.no_room.Goals as goal

pub returns : goal.returns
returns c = search rules
