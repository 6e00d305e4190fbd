use Rattle.std.proofs.Common.{rules}
use Rattle.emtp_deck.proofs.copies.numbers_of_branch.Goals as goal

pub returns-in-Phase : goal.returns-in-Phase
returns-in-Phase c = search rules
