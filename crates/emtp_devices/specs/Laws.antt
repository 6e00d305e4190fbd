-- Words for the laws of devices.
use Rattle.std.specs.Prelude.{◌≡◌, List}
use Rattle.emtp_case.specs.declared.branch.Point.{Point}
use Rattle.emtp_case.specs.declared.control.DeviceState.{DeviceState}
use Rattle.emtp_devices.specs.Device.{newest}

-- the value of the point is put out at the input of this point
abbrev pub MeetsPoint : Point → DeviceState → Type 0
MeetsPoint p state = state.input ≡ p.current → state.output ≡ p.other

-- the output is that of the last record
abbrev pub KeepsOutput : List DeviceState → DeviceState → Type 0
KeepsOutput past state = state.output ≡ (newest past).output
