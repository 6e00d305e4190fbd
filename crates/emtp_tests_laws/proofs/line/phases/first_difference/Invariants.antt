use Rattle.std.proofs.Common.{◌<◌, length}
use Rattle.emtp_tests_laws.proofs.line.phases.first_difference.Given as goal

abbrev pub invariant-loop-at : goal.invariant-loop-at
invariant-loop-at l = 0 < length l.lines.case.trios
