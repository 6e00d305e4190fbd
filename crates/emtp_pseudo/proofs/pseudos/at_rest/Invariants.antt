use Rattle.emtp_pseudo.specs.held.Pseudos.{AreHeldAtRest}
use Rattle.emtp_pseudo.proofs.pseudos.at_rest.Given as goal

abbrev pub invariant-loop-branch : goal.invariant-loop-branch
invariant-loop-branch l = AreHeldAtRest l.case.parts l.branch-index l.held.items
