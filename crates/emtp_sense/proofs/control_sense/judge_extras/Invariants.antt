use Rattle.emtp_case.specs.declared.limit.TheConstants.{MOST_CONTROL_CARDS, MOST_HISTORY_VALUES}
use Rattle.std.proofs.Common.{◌≡◌, ◌≤◌, drop}
use Rattle.emtp_sense.specs.ControlSense.{judge_extras}
use Rattle.emtp_sense.proofs.control_sense.judge_extras.Given as goal

abbrev pub invariant-loop-entry : goal.invariant-loop-entry
invariant-loop-entry l = record {
  same : judge_extras l.variables.keys l.dt l.first 0 0 l.entries ≡ judge_extras l.variables.keys l.dt l.first l.at l.history (drop l.entry-index l.entries);
  few : l.at ≤ MOST_CONTROL_CARDS;
  history : l.history ≤ MOST_HISTORY_VALUES;
}
