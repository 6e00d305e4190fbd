use Rattle.std.proofs.Common.{◌∙◌, arith}
use Rattle.emtp_elim.proofs.sparse.SparseRows.add.Goals as goal

pub extent_of-given-requires : goal.extent_of-given-requires
extent_of-given-requires c = omega (arith, c.rows.ensures.count, c.requires.room, c.requires.size)

pub add_within-requires-clause-diagonal : goal.add_within-requires-clause-diagonal
add_within-requires-clause-diagonal c = c.extent_of-given.ensures.diagonal ∙ c.rows.ensures.count
