use Rattle.std.proofs.Common.{◌≡◌, take}
use Rattle.std.specs.List.{fold}
use Rattle.emtp_devices.specs.Device.{brought, extreme_of_two}
use Rattle.emtp_devices.proofs.inputs.extreme_from.Given as goal

abbrev pub invariant-loop-input : goal.invariant-loop-input
invariant-loop-input l = l.found ≡ fold (λ z i. extreme_of_two l.a z (brought l.values i)) l.first (take l.input-index l.inputs)
