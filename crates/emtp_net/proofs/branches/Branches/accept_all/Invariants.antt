use Rattle.std.proofs.Common.{List}
use Rattle.emtp_case.specs.StepRecord.{StepRecord}
use Rattle.emtp_net.specs.held.Branches.{HasCase, StandsFor}
use Rattle.emtp_net.specs.held.Moving.{AreCurrents, AreInRange, IsNext, StandsBefore}
use Rattle.emtp_net.proofs.branches.Branches.accept_all.Given as goal

abbrev pub invariant-loop-at : goal.invariant-loop-at
invariant-loop-at l = record {
  same : HasCase l.self l.case.parts;
  stands : (H : List StepRecord) → StandsFor l.fn.self H → StandsBefore l.self l.case.parts H l.voltages l.at;
  in_range : (H : List StepRecord) → StandsFor l.fn.self H → AreInRange l.case.parts H l.voltages l.at;
  currents : (H : List StepRecord) (r : StepRecord) → StandsFor l.fn.self H → IsNext l.case.parts H l.voltages r → AreCurrents l.case.parts l.currents r l.at;
}
