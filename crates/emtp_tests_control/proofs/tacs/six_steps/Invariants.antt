use Rattle.std.proofs.Common.{◌≡◌, length}
use Rattle.emtp_tests_control.proofs.tacs.six_steps.Given as goal

abbrev pub invariant-loop-at : goal.invariant-loop-at
invariant-loop-at g l = record {
  case : l.tacs.case ≡ l.initial.tacs.case;
  made : l.tacs.made ≡ l.at;
  values : length l.values ≡ 6;
}
