use Rattle.emtp_fix.specs.declared.limit.TheConstants.{LARGEST_VALUE}
use Rattle.std.proofs.Common.{◌≡◌, ◌≤◌, ◌*◌, take, unsigned_abs}
use Rattle.emtp_devices.specs.Device.{brought_sum}
use Rattle.emtp_devices.proofs.inputs.brought_sum.Given as goal

abbrev pub invariant-loop-input : goal.invariant-loop-input
invariant-loop-input l = record {
  value : l.sum ≡ brought_sum l.values (take l.input-index l.inputs);
  small : unsigned_abs l.sum ≤ l.input-index * LARGEST_VALUE;
}
