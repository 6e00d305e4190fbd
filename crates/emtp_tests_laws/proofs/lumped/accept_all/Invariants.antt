use Rattle.std.proofs.Common.{◌≡◌, List}
use Rattle.emtp_case.specs.StepRecord.{StepRecord}
use Rattle.emtp_lumped.specs.held.Lumps.{StandsFor}
use Rattle.emtp_tests_laws.specs.Stepping.{HaveMoved}
use Rattle.emtp_tests_laws.proofs.Stepping.{HaveStayed}
use Rattle.emtp_tests_laws.proofs.lumped.accept_all.Given as goal

-- those before `at` have moved, those from `at` on stand as before, and the case is the same
abbrev pub invariant-loop-at : goal.invariant-loop-at
invariant-loop-at l = record {
  same : l.lumps.case ≡ l.case.parts;
  moved : (H : List StepRecord) → StandsFor l.fn.lumps H → HaveMoved l.case.parts H l.voltages l.lumps l.currents l.at;
  stayed : (H : List StepRecord) → StandsFor l.fn.lumps H → HaveStayed l.case.parts H l.lumps l.at;
}
