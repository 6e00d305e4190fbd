-- The output that a device keeps of a step is in range.
use Rattle.std.proofs.Common.{ℕ, ℤ, List, Some, IfSome}
use Rattle.emtp_case.specs.declared.case.Parts.{Parts}
use Rattle.emtp_case.specs.declared.control.Device.{Device}
use Rattle.emtp_case.specs.declared.control.DeviceState.{DeviceState}
use Rattle.emtp_fix.proofs.Ranges.{IsSmall, chain-all, chain-any, in_range-within}
use Rattle.emtp_fix.specs.Limit.{in_range, ◌>>=◌}
use Rattle.emtp_devices.specs.Device.{brought_sum, next_state, output_by, reading_of}

pub next_small : (case : Parts) (x : Device) (step : ℕ) (values : List ℤ) (past : List DeviceState) → IfSome (next_state case x step values past) (λ d. IsSmall d.output)
unfolding next_state
next_small case x step values past =
    let Q : DeviceState → Type 0 = λ d. IsSmall d.output in
    chain-any Q (in_range (brought_sum values x.inputs)) (λ s. in_range (output_by case x (reading_of step values past s) x.code) >>= (λ y. Some (record { input = s; output = y })))
    (λ s. chain-all IsSmall Q (in_range (output_by case x (reading_of step values past s) x.code)) (λ y. Some (record { input = s; output = y })) (in_range-within (output_by case x (reading_of step values past s) x.code)) (λ y small. small))
