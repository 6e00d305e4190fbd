use Rattle.std.proofs.Common.{arith}
use Rattle.emtp_tail.proofs.runs.answer.Goals as goal

pub solve_for-requires-clause-all : goal.solve_for-requires-clause-all
solve_for-requires-clause-all g c = omega (arith, c.good.ensures.count, c.good.ensures.within, c.size.ensures)
