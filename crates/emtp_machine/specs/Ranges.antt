-- How great the numbers of a run may be, and how many samples it has.
use Rattle.std.specs.Prelude.{◌≤◌, ℤ, All, List, length, map, unsigned_abs}
use Rattle.emtp_case.specs.RunData.{samples_of}
use Rattle.emtp_case.specs.StepRecord.{StepRecord, current_of}
use Rattle.emtp_case.specs.declared.case.Parts.{Parts}
use Rattle.emtp_fix.specs.declared.limit.TheConstants.{LARGEST_VALUE}

-- no voltage, no current and no value of the control exceeds its range
pub record IsRecordInRange (r : StepRecord) : Type 0 where
  pub voltages : All (λ v. unsigned_abs v ≤ LARGEST_VALUE) r.voltages
  pub branch_currents : All (λ i. unsigned_abs i ≤ LARGEST_VALUE) (map current_of r.branches)
  pub switch_currents : All (λ i. unsigned_abs i ≤ LARGEST_VALUE) r.switch_currents
  pub values : All (λ y. unsigned_abs y ≤ LARGEST_VALUE) r.values

-- the samples are those of the steps of a case at most, and none of their numbers exceeds its range
pub record AreSamplesInRange (case : Parts) (rows : List (List ℤ)) : Type 0 where
  pub few : length rows ≤ samples_of case.run
  pub small : All (All (λ v. unsigned_abs v ≤ LARGEST_VALUE)) rows
