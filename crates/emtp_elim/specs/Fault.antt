-- What is wrong with a row of a matrix, with a right side, and with an unknown: each test and each fault stands here once.
use Rattle.std.specs.Prelude.{ℕ, zero, suc, ℤ, unsigned_abs, nat_lt, nat_eq, Bool, true, ◌&&◌, ◌||◌, List, length, Option, Some, None, if◌then◌else◌}
use Rattle.emtp_fix.specs.Limit.{is_within}
use Rattle.emtp_fix.specs.declared.limit.TheConstants.{LARGEST_ENTRY, LARGEST_RATIO, LARGEST_VALUE}
use Rattle.emtp_elim.specs.Matrix.{Matrix, item, row_of, entry}
use Rattle.emtp_elim.specs.Elimination.{ratio, stage, stage_right, solution}
use Rattle.emtp_elim.specs.declared.fault.RowCause.TheVariants.{Range, ZeroPivot}
use Rattle.emtp_elim.specs.declared.fault.RowFault.{RowFault}
use Rattle.emtp_elim.specs.declared.fault.SolveFault.{SolveFault}

-- the test holds of each number below n
abbrev pub each_below : ℕ → (ℕ → Bool) → Bool
each_below zero p = true
each_below (suc n) p = p n && each_below n p

-- ---- rows

-- no entry of row i leaves its range once k columns have been cleared: each from column k on
abbrev pub is_stage_in_range : Matrix → ℕ → ℕ → Bool
is_stage_in_range rows i k =
    each_below (length (row_of rows i)) (λ j. nat_lt j k || is_within LARGEST_ENTRY (entry (stage rows k) i j))

abbrev pub is_ratio_in_range : Matrix → ℕ → ℕ → Bool
is_ratio_in_range rows i k = is_within LARGEST_RATIO (ratio (stage rows k) k i)

-- neither an entry of row i nor a ratio of it leaves its range: an entry at the start and after each subtraction, up
-- to the moment at which its column is cleared
abbrev pub is_row_in_range : Matrix → ℕ → Bool
is_row_in_range rows i = each_below (suc i) (is_stage_in_range rows i) && each_below i (is_ratio_in_range rows i)

-- the number by which the later rows are cleared of column i
abbrev pub pivot : Matrix → ℕ → ℤ
pivot rows i = entry (stage rows i) i i

-- what is wrong with row i
unfoldable pub row_fault : Matrix → ℕ → Option RowFault
row_fault rows i =
    if is_row_in_range rows i
    then (if nat_eq (unsigned_abs (pivot rows i)) 0 then Some (record { row = i; cause = ZeroPivot }) else None)
    else Some (record { row = i; cause = Range })

-- ---- right sides and unknowns

-- the right side of row i leaves its range neither at the start nor after a subtraction
abbrev pub is_right_in_range : Matrix → List ℤ → ℕ → Bool
is_right_in_range rows right i = each_below (suc i) (λ k. is_within LARGEST_VALUE (item (stage_right rows right k) i))

-- what is wrong with the right side of row i
unfoldable pub right_fault : Matrix → List ℤ → ℕ → Option SolveFault
right_fault rows right i = if is_right_in_range rows right i then None else Some (record { row = i })

-- what is wrong with the unknown of row i
unfoldable pub unknown_fault : Matrix → List ℤ → ℕ → Option SolveFault
unknown_fault rows right i = if is_within LARGEST_VALUE (item (solution rows right) i) then None else Some (record { row = i })
