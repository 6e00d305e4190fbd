use Rattle.std.proofs.Common.{◌≡◌, ◌+◌, ℕ, suc, ◌<ℤ◌, subst, slice_index_or, arith}
use Rattle.emtp_case.specs.Branch.{origin, points_of}
use Rattle.emtp_case.specs.declared.control.DeviceCode.TheVariants.{Table}
use Rattle.emtp_case.specs.declared.control.DeviceState.{DeviceState}
use Rattle.emtp_devices.proofs.NextStates.{next-has}
use Rattle.emtp_devices.proofs.Tables.{Rises, table-meets}
use Rattle.emtp_devices.proofs.laws.table_meets_its_points.Goals as goal

pub returns : goal.returns
returns c = λ case step values past k table there.
    let x = c.args.device.now in
    let points = points_of case.points x.first x.count in
    let one : (j : ℕ) → j + 1 ≡ suc j = λ j. omega arith in
    let rises : Rises points = λ j later. let P = λ (n : ℕ). (slice_index_or points j origin).current <ℤ (slice_index_or points n origin).current in subst P (one j) (table.rising j (omega (arith, later))) in
    next-has case x Table step values past (λ (state : DeviceState). state.input ≡ (slice_index_or points k origin).current → state.output ≡ (slice_index_or points k origin).other) c.requires (λ s here. table-meets s points k rises there here)
