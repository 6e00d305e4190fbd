use Rattle.emtp_lumped.proofs.Holding.{rest-lumping, rest-stands-for}
use Rattle.emtp_lumped.proofs.lumps.Lumps.open.Goals as goal

pub invariant_of-result : goal.invariant_of-result
invariant_of-result c = rest-lumping c.args.case.now.parts c.in_ok-held.held.items c.args.case.now.fits c.in_ok-held.ensures

pub returns-clause-stands : goal.returns-clause-stands
returns-clause-stands c = rest-stands-for c.args.case.now.parts c.in_ok-held.held.items c.in_ok-held.ensures
