use Rattle.std.proofs.Common.{◌≡◌, ◌≤◌, drop, length}
use Rattle.std.specs.Prelude.{◌++◌}
use Rattle.emtp_deck.specs.ControlFilling.{inputs_of}
use Rattle.emtp_deck.proofs.control_filling.inputs_of.Given as goal

abbrev pub invariant-loop-input : goal.invariant-loop-input
invariant-loop-input l = record {
  same : inputs_of l.variables.keys l.inputs ≡ l.list ++ inputs_of l.variables.keys (drop l.input-index l.inputs);
  few : length l.list ≤ l.input-index;
}
