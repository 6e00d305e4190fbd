-- What the devices of a case stand for, and how a step moves them. No clause of the program reaches it.
use Rattle.std.specs.Prelude.{◌≡◌, ◌≢◌, ◌<◌, ◌∷◌, IfOk, List, None, OnErr, Option, Result, Some, length, map, slice_get, slice_index_or, ℕ, ℤ}
use Rattle.emtp_case.specs.StepRecord.{StepRecord}
use Rattle.emtp_case.specs.declared.case.Parts.{Parts}
use Rattle.emtp_case.specs.declared.control.Device.{Device}
use Rattle.emtp_case.specs.declared.control.DeviceState.{DeviceState}
use Rattle.emtp_case.specs.declared.control.Extra.TheVariants.{Device as OfDevice}
use Rattle.emtp_devices.specs.Device.{next_state}
use Rattle.emtp_devices.specs.held.Held.{DeviceStands, IsHeldOf, held_at_rest}
use Rattle.emtp_devices.specs.declared.held.HeldDevice.{HeldDevice}
use Rattle.emtp_fix.specs.declared.limit.OutOfRange.{OutOfRange}
use Rattle.emtp_devices.specs.Devices.{states_of}

-- what a contract sees: the case, what is held of each supplemental card, and the capacities of the lists that a step writes
pub record HeldDevices : Type 0 where
  pub case : Parts
  pub held : List HeldDevice
  pub capacities : List ℕ

-- the capacity of the list of what is held, and that of the ring of each supplemental card
abbrev pub capacities_of : ℕ → List HeldDevice → List ℕ
capacities_of capacity held = capacity ∷ map (λ (h : HeldDevice). h.inputs.depth) held

-- a supplemental card of a case is this device
abbrev pub IsDeviceAt : Parts → ℕ → Device → Type 0
IsDeviceAt case at x = slice_get case.extras at ≡ Some (OfDevice x)

abbrev pub device_held : List HeldDevice → ℕ → HeldDevice
device_held held at = slice_index_or held at (held_at_rest 1)

-- at a device the value stands for what the records keep of it
pub record StandsAt (s : HeldDevices) (at : ℕ) (past : List DeviceState) : Type 0 where
  pub there : at < length s.held
  pub stands : DeviceStands (device_held s.held at) past

-- the value stands for the records
abbrev pub StandsFor : HeldDevices → List StepRecord → Type 0
StandsFor s H = (at : ℕ) (x : Device) → IsDeviceAt s.case at x → StandsAt s at (states_of at H)

-- a device moved by one step: its next state's output is the answer, and this state is the newest
pub record HasMoved (new : HeldDevices) (at : ℕ) (past : List DeviceState) (next : Option DeviceState) (y : ℤ) : Type 0 where
  pub state : DeviceState
  pub is : next ≡ Some state
  pub output : y ≡ state.output
  pub stands : StandsAt new at (state ∷ past)

-- The whole of a call that computes one device in a step. On Ok the device moved, whatever past it stood for; an Err comes
-- exactly where there is no next state, and changes nothing.
pub record Moves (old new : HeldDevices) (extra step : ℕ) (values : List ℤ) (result : Result ℤ OutOfRange) : Type 0 where
  pub case : new.case ≡ old.case
  pub moved : (x : Device) (past : List DeviceState) → IsDeviceAt old.case extra x → StandsAt old extra past
      → IfOk result (HasMoved new extra past (next_state old.case x step values past))
  pub out : (x : Device) (past : List DeviceState) → IsDeviceAt old.case extra x → StandsAt old extra past
      → OnErr result (next_state old.case x step values past ≡ None)
  pub others : (at : ℕ) (past : List DeviceState) → at ≢ extra → StandsAt old at past → StandsAt new at past
  pub same : OnErr result (new ≡ old)

pub record AreHeld (case : Parts) (held : List HeldDevice) : Type 0 where
  pub one_each : length held ≡ length case.extras
  pub fit : (at : ℕ) (x : Device) → IsDeviceAt case at x → IsHeldOf case.run.dt x (device_held held at)
