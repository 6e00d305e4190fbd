-- Right sides and unknowns, by finished rows.
use Rattle.std.specs.Prelude.{◌≡◌, ℕ, zero, suc, ◌<◌, ◌≤◌, ℤ, unsigned_abs, List, length, Result}
use Rattle.emtp_fix.specs.declared.limit.TheConstants.{LARGEST_VALUE}
use Rattle.emtp_elim.specs.Matrix.{Matrix, item}
use Rattle.emtp_elim.specs.Elimination.{less_product, stage_right, last_unknowns}
use Rattle.emtp_elim.specs.held.Fault.{IsGoodRight}
use Rattle.emtp_elim.specs.held.Finished.{AreAllFinished}
use Rattle.emtp_elim.specs.Outcome.{outcome}
use Rattle.emtp_elim.specs.declared.fault.PlainFault.{PlainFault}

-- a right side less the first n products of its row's ratios and the right sides above it
abbrev pub partial_right : ℤ → List ℤ → List ℤ → ℕ → ℤ
partial_right start ratios above zero = start
partial_right start ratios above (suc n) = less_product (partial_right start ratios above n) (item ratios n) (item above n)

-- the first n right sides have had the work of the elimination done on them, and stayed in range
pub record AreReduced (rows : Matrix) (given : List ℤ) (n : ℕ) (right : List ℤ) : Type 0 where
  pub reduced : (i : ℕ) → i < n → item right i ≡ item (stage_right rows given i) i
  pub in_range : (i : ℕ) → i < n → IsGoodRight rows given i

-- row i is the last one whose unknown leaves its range, in a triangular system
pub record IsLastFault (rows : Matrix) (right : List ℤ) (i : ℕ) : Type 0 where
  pub within : i < length rows
  pub later : (h : ℕ) → i < h → h < length rows → unsigned_abs (item (last_unknowns rows right (length rows)) h) ≤ LARGEST_VALUE
  pub out : LARGEST_VALUE < unsigned_abs (item (last_unknowns rows right (length rows)) i)

-- in every matrix of which these are all finished rows, full elimination with this right side ends so
pub record SolvesAs (done : Matrix) (right : List ℤ) (end : Result (List ℤ) PlainFault) : Type 0 where
  pub outcome_is : (rows : Matrix) → AreAllFinished rows done → outcome rows right ≡ end
