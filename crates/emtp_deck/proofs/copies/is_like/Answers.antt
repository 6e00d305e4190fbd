use Rattle.std.proofs.Common.{rules}
use Rattle.emtp_deck.proofs.copies.is_like.Goals as goal

pub returns-then-eq : goal.returns-then-eq
returns-then-eq c = search rules
