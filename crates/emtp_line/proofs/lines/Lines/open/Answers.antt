use Rattle.emtp_line.proofs.Lining.{rest_lining, rest_stands_for}
use Rattle.emtp_line.proofs.lines.Lines.open.Goals as goal

pub invariant_of-result : goal.invariant_of-result
invariant_of-result c = rest_lining c.args.case.now.parts c.in_ok-lines.lines.items c.in_ok-trios.trios.items c.args.case.now.fits c.in_ok-lines.ensures c.in_ok-trios.ensures

pub returns-clause-stands : goal.returns-clause-stands
returns-clause-stands c = rest_stands_for c.args.case.now.parts c.in_ok-lines.lines.items c.in_ok-trios.trios.items c.in_ok-lines.ensures c.in_ok-trios.ensures
