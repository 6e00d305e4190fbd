use Rattle.std.proofs.Common.{map, ◌≤ℤ◌, All}
use Rattle.std.specs.List.{Contains}
use Rattle.emtp_case.specs.declared.control.DeviceCode.TheVariants.{Extreme}
use Rattle.emtp_case.specs.declared.control.DeviceState.{DeviceState}
use Rattle.emtp_case.specs.declared.control.Input.{Input}
use Rattle.emtp_devices.specs.Device.{brought}
use Rattle.emtp_devices.proofs.Extremes.{extreme-bounds, extreme-bounds_below, extreme-reached}
use Rattle.emtp_devices.proofs.NextStates.{next-has}
use Rattle.emtp_devices.proofs.laws.extreme_is_reached.Goals as goal

pub returns-clause-greatest : goal.returns-clause-greatest
returns-clause-greatest c = λ case step values past a. let x = c.args.device.now in
    next-has case x Extreme step values past (λ (state : DeviceState). All (λ (i : Input). brought values i ≤ℤ state.output) x.inputs) c.requires (λ s. extreme-bounds x.a values x.inputs a)

pub returns-clause-least : goal.returns-clause-least
returns-clause-least c = λ case step values past a. let x = c.args.device.now in
    next-has case x Extreme step values past (λ (state : DeviceState). All (λ (i : Input). state.output ≤ℤ brought values i) x.inputs) c.requires (λ s. extreme-bounds_below x.a values x.inputs a)

pub returns-clause-reached : goal.returns-clause-reached
returns-clause-reached c = λ case step values past some. let x = c.args.device.now in
    next-has case x Extreme step values past (λ (state : DeviceState). Contains (map (brought values) x.inputs) state.output) c.requires (λ s. extreme-reached x.a values x.inputs some)
