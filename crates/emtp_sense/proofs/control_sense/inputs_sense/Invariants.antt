use Rattle.std.proofs.Common.{◌≡◌, ◌+◌, ◌*◌, drop}
use Rattle.emtp_sense.specs.ControlSense.{inputs_sense}
use Rattle.emtp_sense.proofs.control_sense.inputs_sense.Given as goal

abbrev pub invariant-loop-input : goal.invariant-loop-input
invariant-loop-input l = record {
  same : inputs_sense l.variables.keys 12 l.inputs ≡ inputs_sense l.variables.keys l.column (drop l.input-index l.inputs);
  column : l.column ≡ 12 + 8 * l.input-index;
}
