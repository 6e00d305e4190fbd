use Rattle.std.proofs.Common.{◌≡◌, List, Ok}
use Rattle.emtp_case.specs.held.Control.{AreKnown}
use Rattle.emtp_case.specs.declared.control.DeviceState.{DeviceState}
use Rattle.emtp_tacs.specs.held.Stages.{measured_by}
use Rattle.emtp_tacs.specs.Step.{in_turn, source_at}
use Rattle.emtp_tacs.proofs.sources.put_sources.Given as goal

abbrev pub invariant-loop-at : goal.invariant-loop-at
invariant-loop-at l = record {
  known : AreKnown l.case.parts l.values;
  so_far : (devices : List DeviceState) → in_turn (source_at l.case.parts l.step (measured_by l.measured)) l.at (record { values = l.fn.values; devices = devices }) ≡ Ok (record { values = l.values; devices = devices });
}
