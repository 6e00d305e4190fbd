use Rattle.emtp_case.specs.declared.branch.Pseudo.{Pseudo}
use Rattle.emtp_pseudo.specs.held.Pseudos.{IsPseudoAt}
use Rattle.emtp_tests_laws.proofs.pseudo.first_difference.Given as goal

abbrev pub invariant-loop-at : goal.invariant-loop-at
invariant-loop-at l = (x : Pseudo) × IsPseudoAt l.pseudos.case 0 x
