use Rattle.std.proofs.Common.{◌≡◌, drop}
use Rattle.emtp_sense.specs.ControlSense.{names_sense}
use Rattle.emtp_sense.proofs.control_sense.names_sense.Given as goal

abbrev pub invariant-loop-name : goal.invariant-loop-name
invariant-loop-name l = names_sense l.variables.keys l.names ≡ names_sense l.variables.keys (drop l.name-index l.names)
