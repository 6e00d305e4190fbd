use Rattle.emtp_deck.proofs.copies.taken_by_pair.Goals as goal

pub returns : goal.returns
returns c = record { zero_taken = c.taken_by-z.ensures; positive_taken = c.taken_by-q.ensures }
