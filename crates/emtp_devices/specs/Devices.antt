-- The states of a device in the records, newest first.
use Rattle.std.specs.Prelude.{List, map, ℕ}
use Rattle.emtp_case.specs.StepRecord.{StepRecord, device_at}
use Rattle.emtp_case.specs.declared.control.DeviceState.{DeviceState}

-- ---- records

-- what the records keep of a device, newest first
abbrev pub states_of : ℕ → List StepRecord → List DeviceState
states_of at H = map (device_at at) H
