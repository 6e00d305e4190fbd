use Rattle.std.proofs.Common.{◌≡◌, ◌-◌, ◌≤◌, drop, slice_index_or}
use Rattle.emtp_case.specs.Branch.{origin}
use Rattle.emtp_devices.specs.Device.{along, table_value}
use Rattle.emtp_devices.proofs.table.table_value.Given as goal

abbrev pub invariant-loop-at : goal.invariant-loop-at
invariant-loop-at l = record {
  some : 1 ≤ l.at;
  value : table_value l.s l.points ≡ along l.s (slice_index_or l.points (l.at - 1) origin) (drop l.at l.points);
}
