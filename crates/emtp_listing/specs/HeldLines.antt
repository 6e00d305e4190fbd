-- What the calls that put a line hold of its record.
use Rattle.std.specs.Prelude.{◌<◌, ◌≤◌}
use Rattle.emtp_case.specs.held.Sizes.{Sizes}
use Rattle.emtp_case.specs.declared.source.Shape.{Shape}
use Rattle.emtp_case.specs.declared.source.Shape.TheVariants.{NodeVoltage, SwitchCurrent, SwitchStatus, Tacs}

-- what the course of a source names is there, of the network and of the control
abbrev pub IsListedShape : Sizes → Shape → Type 0
IsListedShape n (Tacs var) = var < n.vars
IsListedShape n (NodeVoltage node) = node ≤ n.nodes
IsListedShape n (SwitchCurrent switch) = switch < n.switches
IsListedShape n (SwitchStatus switch) = switch < n.switches
IsListedShape n shape = Unit {0}
