use Rattle.std.proofs.Common.{arith, refl}
use Rattle.emtp_deck.proofs.filling.draft_with.Goals as goal

pub add_nodes-requires-clause-grows : goal.add_nodes-requires-clause-grows
add_nodes-requires-clause-grows c = rw c.in_ok-draft.ensures (record { longer = omega arith; front = refl })
