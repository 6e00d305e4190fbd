use Rattle.std.proofs.Common.{arith}
use Rattle.emtp_elim.proofs.Writing.{extent_written}
use Rattle.emtp_elim.proofs.extent.extent_over.Goals as goal

pub returns-clause-extent : goal.returns-clause-extent
returns-clause-extent c = λ row long was.
    extent_written row c.args.first c.args.end c.args.diagonal c.first_with-least.result c.end_behind-most.result was c.first_with-least.ensures.low c.first_with-least.ensures.there
    c.end_behind-most.ensures.low c.end_behind-most.ensures.there (omega (arith, long, c.end_behind-most.ensures.within))
