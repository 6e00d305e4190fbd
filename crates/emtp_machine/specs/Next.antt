-- The next record of a case, or why there is none.
use Rattle.std.specs.Prelude.{ℕ, ◌-◌, ℤ, pos, Bool, false, true, List, [], map, slice_index_or, Result, Ok, Err}
use Rattle.emtp_case.specs.StepRecord.{StepRecord, is_closed}
use Rattle.emtp_case.specs.declared.case.Parts.{Parts}
use Rattle.emtp_net.specs.Part.{NetworkPart}
use Rattle.emtp_net.specs.Step.{network_part}
use Rattle.emtp_net.specs.declared.fault.NetFault.{NetFault}
use Rattle.emtp_net.specs.declared.fault.NetFault.TheVariants.{Range as NetRange, Residual as NetResidual, Tied as NetTied, ZeroPivot as NetPivot}
use Rattle.emtp_tacs.specs.Part.{ControlPart}
use Rattle.emtp_tacs.specs.Step.{Measured, control_step}
use Rattle.emtp_tacs.specs.declared.fault.TacsFault.{TacsFault}
use Rattle.emtp_machine.specs.declared.end.Cause.{Cause}
use Rattle.emtp_machine.specs.declared.end.Cause.TheVariants.{Range, Residual, TacsPivot, TacsRange, Tied, ZeroPivot}

-- why a step has no record: the first of its faults, the node or the variable that it is named by, and what was measured
pub record Fault : Type 0 where
  pub name : List ℕ
  pub cause : Cause
  pub measured : ℤ

-- the name of a node, whose number counts from 1
abbrev pub node_name : Parts → ℕ → List ℕ
node_name case node = slice_index_or case.nodes (node - 1) []

-- only a residual is measured
abbrev pub network_fault : Parts → NetFault → Fault
network_fault case (NetTied node) = record { name = node_name case node; cause = Tied; measured = pos 0 }
network_fault case (NetPivot node) = record { name = node_name case node; cause = ZeroPivot; measured = pos 0 }
network_fault case (NetRange node) = record { name = node_name case node; cause = Range; measured = pos 0 }
network_fault case (NetResidual node x) = record { name = node_name case node; cause = Residual; measured = x }

-- the name of a variable, whose number counts from 0
abbrev pub variable_name : Parts → ℕ → List ℕ
variable_name case var = slice_index_or case.vars var []

abbrev pub control_cause : Bool → Cause
control_cause true = TacsPivot
control_cause false = TacsRange

abbrev pub control_fault : Parts → TacsFault → Fault
control_fault case fault = record { name = variable_name case fault.var; cause = control_cause fault.pivot; measured = pos 0 }

-- what the control reads of the network's part of the same step
abbrev pub measured_of : NetworkPart → Measured
measured_of network = record {
  voltages = network.voltages;
  currents = network.switch_currents;
  closed = map is_closed network.switch_states;
}

-- the record of both parts
abbrev pub record_of : NetworkPart → ControlPart → StepRecord
record_of network control = record {
  voltages = network.voltages;
  branches = network.branches;
  switch_states = network.switch_states;
  switch_currents = network.switch_currents;
  values = control.values;
  blocks = control.blocks;
  devices = control.devices;
}

-- the record of the network's part with the control's, where the control has one
abbrev pub joined : Parts → NetworkPart → Result ControlPart TacsFault → Result StepRecord Fault
joined case network (Ok control) = Ok (record_of network control)
joined case network (Err fault) = Err (control_fault case fault)

-- the control follows the network
abbrev pub with_control : Parts → List StepRecord → Result NetworkPart NetFault → Result StepRecord Fault
with_control case H (Ok network) = joined case network (control_step case H (measured_of network))
with_control case H (Err fault) = Err (network_fault case fault)

-- the record after the records, newest first: the network by the values of the control of the last one, then the control
-- by the network's numbers of this one
unfoldable pub next : Parts → List StepRecord → Result StepRecord Fault
next case H = with_control case H (network_part case H)
