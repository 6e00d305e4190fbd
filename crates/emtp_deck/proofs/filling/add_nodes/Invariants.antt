use Rattle.std.proofs.Common.{◌≡◌, take}
use Rattle.emtp_deck.proofs.filling.add_nodes.Given as goal

abbrev pub invariant-loop-at : goal.invariant-loop-at
invariant-loop-at l = l.draft.parts ≡ record l.initial.draft.parts { nodes = take l.at l.nodes.keys }
