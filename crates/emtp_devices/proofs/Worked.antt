-- Worked rows: 8 from step 1 on, at a time step of 0.1 ms, over three steps. The newest state stands first.
use Rattle.emtp_case.specs.declared.limit.TheConstants.{MOST_HISTORY_VALUES}
use Rattle.std.proofs.Common.{◌≡◌, refl, true, false, negsuc, ℕ, ℤ, pos, List, [], ◌∷◌, Option, Some, None, ◌*◌, ◌^◌}
use Rattle.emtp_case.specs.Case.{empty_parts}
use Rattle.emtp_case.specs.declared.case.Parts.{Parts}
use Rattle.emtp_case.specs.declared.control.Device.{Device}
use Rattle.emtp_case.specs.declared.control.DeviceCode.{DeviceCode}
use Rattle.emtp_case.specs.declared.control.DeviceCode.TheVariants.{Counter, Delay, Derivative, Extreme, Integral}
use Rattle.emtp_case.specs.declared.control.DeviceState.{DeviceState}
use Rattle.emtp_case.specs.declared.control.Group.TheVariants.{Output}
use Rattle.emtp_case.specs.declared.control.Input.{Input}
use Rattle.emtp_devices.specs.Device.{next_state}
use Rattle.emtp_fix.specs.Rounding.{near, near_abs}

the_case : Parts
the_case = empty_parts (record { dt = pos (10 ^ 8); steps = 3; every = 1; tolerance = pos 0 })

card : DeviceCode → ℤ → List Input → Device
card code a inputs = record { line = 1; var = 7; group = Output; code = code; inputs = inputs; a = a; b = pos 0; c = pos 0; d = None; e = None; first = 0; count = 0 }

plus : List Input
plus = record { var = 6; minus = false } ∷ []

both : List Input
both = record { var = 6; minus = false } ∷ record { var = 6; minus = true } ∷ []

values : List ℤ
values = pos 0 ∷ pos 0 ∷ pos 0 ∷ pos 0 ∷ pos 0 ∷ pos 0 ∷ pos (8 * 10 ^ 9) ∷ pos 0 ∷ []

with_state : Option DeviceState → List DeviceState → List DeviceState
with_state None past = past
with_state (Some state) past = state ∷ past

stepped : Device → ℕ → List DeviceState → List DeviceState
stepped x n past = with_state (next_state the_case x n values past) past

three : Device → List DeviceState
three x = stepped x 3 (stepped x 2 (stepped x 1 (record { input = pos 0; output = pos 0 } ∷ [])))

state : ℤ → ℤ → DeviceState
state s y = record { input = s; output = y }

-- a delay of two steps: 0, 0, 0, 8
delayed : three (card Delay (pos (2 * 10 ^ 8)) plus) ≡ state (pos 8000000000) (pos 8000000000) ∷ state (pos 8000000000) (pos 0) ∷ state (pos 8000000000) (pos 0) ∷ state (pos 0) (pos 0) ∷ []
unfolding next_state near near_abs the_case card plus both values with_state stepped three state
delayed = refl

-- an integral: 0, 0.0004, 0.0012, 0.002
integral : three (card Integral (pos 0) plus) ≡ state (pos 8000000000) (pos MOST_HISTORY_VALUES) ∷ state (pos 8000000000) (pos 1200000) ∷ state (pos 8000000000) (pos 400000) ∷ state (pos 0) (pos 0) ∷ []
unfolding next_state near near_abs the_case card plus both values with_state stepped three state
integral = refl

-- a change: 0, 80000, 0, 0
derivative : three (card Derivative (pos 0) plus) ≡ state (pos 8000000000) (pos 0) ∷ state (pos 8000000000) (pos 0) ∷ state (pos 8000000000) (pos (8 * 10 ^ 13)) ∷ state (pos 0) (pos 0) ∷ []
unfolding next_state near near_abs the_case card plus both values with_state stepped three state
derivative = refl

-- a counter: 0, 8, 16, 24
counter : three (card Counter (pos 0) plus) ≡ state (pos 8000000000) (pos 24000000000) ∷ state (pos 8000000000) (pos 16000000000) ∷ state (pos 8000000000) (pos 8000000000) ∷ state (pos 0) (pos 0) ∷ []
unfolding next_state near near_abs the_case card plus both values with_state stepped three state
counter = refl

-- the least of 8 and -8: -8, at an input sum of 0
least : three (card Extreme (negsuc 999999999) both) ≡ state (pos 0) (negsuc 7999999999) ∷ state (pos 0) (negsuc 7999999999) ∷ state (pos 0) (negsuc 7999999999) ∷ state (pos 0) (pos 0) ∷ []
unfolding next_state near near_abs the_case card plus both values with_state stepped three state
least = refl
