use Rattle.std.proofs.Common.{◌≡◌, List, length, Ok}
use Rattle.emtp_case.specs.held.Control.{AreKnown}
use Rattle.emtp_case.specs.StepRecord.{StepRecord}
use Rattle.emtp_tacs.specs.held.Stages.{IsSoFar, Reaches}
use Rattle.emtp_tacs.specs.Step.{SoFar, extra_at, in_turn}
use Rattle.emtp_tacs.proofs.extras.compute_extras.Given as goal

abbrev pub invariant-loop-at : goal.invariant-loop-at
invariant-loop-at l = record {
  same : l.devices.case ≡ l.pass.case.now.parts;
  known : AreKnown l.pass.case.now.parts l.values;
  capacities : l.devices.capacities ≡ l.fn.devices.capacities;
  reaches : (H : List StepRecord) (s : SoFar) → let case = l.pass.case.now.parts in let early = l.pass.early in
      l.pass.step ≡ length H → IsSoFar case H early 0 l.fn.values l.fn.devices s → Reaches (Ok tt) case H early l.at l.values l.devices (in_turn (extra_at case H early) l.at s);
}
