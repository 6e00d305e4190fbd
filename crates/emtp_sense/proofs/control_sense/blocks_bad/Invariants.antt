use Rattle.emtp_case.specs.declared.limit.TheConstants.{MOST_CONTROL_CARDS}
use Rattle.std.proofs.Common.{◌≡◌, ◌≤◌, drop}
use Rattle.emtp_sense.specs.ControlSense.{blocks_bad}
use Rattle.emtp_sense.proofs.control_sense.blocks_bad.Given as goal

abbrev pub invariant-loop-entry : goal.invariant-loop-entry
invariant-loop-entry l = record {
  same : blocks_bad l.variables.keys 0 l.entries ≡ blocks_bad l.variables.keys l.at (drop l.entry-index l.entries);
  few : l.at ≤ MOST_CONTROL_CARDS;
}
