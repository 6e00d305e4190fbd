use Rattle.emtp_case.specs.declared.branch.Line.{Line}
use Rattle.emtp_line.specs.held.Lines.{IsLineAt}
use Rattle.emtp_tests_laws.proofs.line.first_difference.Given as goal

abbrev pub invariant-loop-at : goal.invariant-loop-at
invariant-loop-at l = (x : Line) × IsLineAt l.lines.case 0 x
