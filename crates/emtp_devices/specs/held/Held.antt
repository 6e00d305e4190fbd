-- What is held of one device between two steps.
use Rattle.emtp_case.specs.declared.limit.TheConstants.{MOST_HISTORY_VALUES}
use Rattle.std.specs.Prelude.{◌≡◌, ◌≤◌, ◌∷◌, [], All, List, Option, Some, max, pos, take, unsigned_abs, ℕ, ℤ}
use Rattle.emtp_case.specs.HistoryValues.{device_history_values, extra_history_values}
use Rattle.emtp_case.specs.declared.control.Device.{Device}
use Rattle.emtp_case.specs.declared.control.DeviceCode.TheVariants.{EffectiveValue}
use Rattle.emtp_case.specs.declared.control.DeviceState.{DeviceState}
use Rattle.emtp_case.specs.declared.control.Extra.{Extra}
use Rattle.emtp_devices.specs.Device.{inputs_of, newest, sum_of_squares}
use Rattle.emtp_devices.specs.declared.held.HeldDevice.{HeldDevice}
use Rattle.emtp_fix.specs.declared.limit.TheConstants.{LARGEST_VALUE}
use Rattle.emtp_hist.specs.held.History.{Remembers}

-- what is held stands for what the records keep of the device, newest first: the last output and the last inputs
pub record DeviceStands (h : HeldDevice) (past : List DeviceState) : Type 0 where
  pub output : h.output ≡ (newest past).output
  pub inputs : Remembers h.inputs (inputs_of past)

-- how many inputs a supplemental card holds: its history values, and the last input where it has none
abbrev pub depth_of : ℤ → Extra → ℕ
depth_of dt e = max 1 (extra_history_values dt e)

-- a device of record 0; a formula is held likewise, and never read
abbrev pub held_at_rest : ℕ → HeldDevice
held_at_rest depth = record {
  depth = depth;
  output = pos 0;
  squares = pos 0;
  inputs = record { depth = depth; values = take depth (pos 0 ∷ []) };
}

-- what is held of any card is in range, and the ring is of the depth that stands beside it
pub record IsHeld (h : HeldDevice) : Type 0 where
  pub some : 1 ≤ h.depth
  pub few : h.depth ≤ MOST_HISTORY_VALUES
  pub ring : h.inputs.depth ≡ h.depth
  pub itself : Remembers h.inputs h.inputs.values
  pub output_small : unsigned_abs h.output ≤ LARGEST_VALUE
  pub inputs_small : All (λ s. unsigned_abs s ≤ LARGEST_VALUE) h.inputs.values

-- the depth is that of the card, and the running sum is that of the inputs held
pub record IsHeldOf (dt : ℤ) (x : Device) (h : HeldDevice) : Type 0 where
  pub held : IsHeld h
  pub depth : h.depth ≡ max 1 (device_history_values dt x.code x.a)
  pub squares : x.code ≡ EffectiveValue → h.squares ≡ sum_of_squares h.inputs.values

-- A device moved by one step: there is a next state, its output is the answer, and it is the newest of what is held.
pub record DeviceMoved (new : HeldDevice) (past : List DeviceState) (next : Option DeviceState) (y : ℤ) : Type 0 where
  pub state : DeviceState
  pub is : next ≡ Some state
  pub output : y ≡ state.output
  pub stands : DeviceStands new (state ∷ past)
