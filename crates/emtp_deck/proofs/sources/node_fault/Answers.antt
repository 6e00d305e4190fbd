use Rattle.std.proofs.Common.{rules}
use Rattle.emtp_deck.proofs.sources.node_fault.Goals as goal

pub returns-in-Some : goal.returns-in-Some
returns-in-Some c = search rules
