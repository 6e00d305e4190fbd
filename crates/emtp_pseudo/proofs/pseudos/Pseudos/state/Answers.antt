use Rattle.emtp_pseudo.proofs.Holding.{at_seen, held_read}
use Rattle.emtp_pseudo.proofs.pseudos.Pseudos.state.Goals as goal

pub returns-clause-current : goal.returns-clause-current
returns-clause-current c =
    let at = at_seen c.self.inside.case.now.parts c.self.inside.held.items c.args.self.now c.args.branch c.requires.0 c.self.view_is c.requires.1 in
    (held_read c.self.inside.case.now.parts c.self.inside.held.items c.args.branch c.requires.0 c.index.result.now c.self.invariant at c.index.ensures).moment.current

pub returns-clause-flux : goal.returns-clause-flux
returns-clause-flux c =
    let at = at_seen c.self.inside.case.now.parts c.self.inside.held.items c.args.self.now c.args.branch c.requires.0 c.self.view_is c.requires.1 in
    (held_read c.self.inside.case.now.parts c.self.inside.held.items c.args.branch c.requires.0 c.index.result.now c.self.invariant at c.index.ensures).moment.flux
