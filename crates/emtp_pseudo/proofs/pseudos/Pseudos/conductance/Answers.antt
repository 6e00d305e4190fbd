use Rattle.std.proofs.Common.{arith}
use Rattle.std.proofs.lemmas.Int.{ints}
use Rattle.emtp_pseudo.proofs.Holding.{at_seen, held_read}
use Rattle.emtp_pseudo.proofs.pseudos.Pseudos.conductance.Goals as goal

pub returns-clause-bound : goal.returns-clause-bound
returns-clause-bound c =
    let at = at_seen c.self.inside.case.now.parts c.self.inside.held.items c.args.self.now c.args.branch c.requires.0 c.self.view_is c.requires.1 in
    let range = (held_read c.self.inside.case.now.parts c.self.inside.held.items c.args.branch c.requires.0 c.index.result.now c.self.invariant at c.index.ensures).sound.conductance in
    record { least = omega (arith, ints, range.least, range.most); most = omega (arith, ints, range.least, range.most) }
