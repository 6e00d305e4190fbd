-- Beside `Part`: what values hold for their proofs, and what premises say. No clause of the program reaches it.
use Rattle.emtp_case.specs.StepRecord.{StepRecord}
use Rattle.emtp_net.specs.Part.{NetworkPart}

abbrev pub network_of : StepRecord → NetworkPart
network_of r = record {
  voltages = r.voltages;
  branches = r.branches;
  switch_states = r.switch_states;
  switch_currents = r.switch_currents;
}
