-- Beside `Part`: what values hold for their proofs, and what premises say. No clause of the program reaches it.
use Rattle.emtp_case.specs.StepRecord.{StepRecord}
use Rattle.emtp_tacs.specs.Part.{ControlPart}

abbrev pub control_of : StepRecord → ControlPart
control_of r = record { values = r.values; blocks = r.blocks; devices = r.devices }
