use Rattle.emtp_deck.proofs.copies.line_numbers.Goals as goal

pub numbers_of_branch-requires : goal.numbers_of_branch-requires
numbers_of_branch-requires c = (rw c.in-Earlier.is at c.requires).there
