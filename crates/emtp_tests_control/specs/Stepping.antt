-- What the caller of the blocks promises.
use Rattle.std.specs.Prelude.{◌≡◌, ℤ, List, Ok}
use Rattle.emtp_case.specs.StepRecord.{StepRecord}
use Rattle.emtp_case.specs.declared.case.Parts.{Parts}
use Rattle.emtp_elim.specs.Outcome.{outcome}
use Rattle.emtp_blocks.specs.held.BlockRows.{Accepts, Blocking}
use Rattle.emtp_blocks.specs.System.{matrix, right}

-- a step of the blocks: their system has this solution, and the value takes it in
pub record Steps (case : Parts) (H : List StepRecord) (known : List ℤ) (new : Blocking) (x : List ℤ) : Type 0 where
  pub solution : List ℤ
  pub solved : outcome (matrix case H) (right case H known) ≡ Ok solution
  pub accepted : Accepts (Ok (record {})) new x H known solution
