use Rattle.std.proofs.Common.{◌≡◌, List, length}
use Rattle.emtp_case.specs.StepRecord.{StepRecord, latest}
use Rattle.emtp_machine.specs.held.Controlled.{StandsFor}
use Rattle.emtp_machine.specs.Channels.{channel_value}
use Rattle.emtp_machine.proofs.Rows.{AreFilled}
use Rattle.emtp_machine.proofs.controlled.ControlledNetwork.fill_row.Given as goal

abbrev pub invariant-loop-at : goal.invariant-loop-at
invariant-loop-at l = record {
  width : length l.row ≡ length l.initial.row;
  filled : (H : List StepRecord) → StandsFor l.self H → AreFilled (channel_value l.case.parts (latest H)) l.case.parts.channels l.row l.at;
}
