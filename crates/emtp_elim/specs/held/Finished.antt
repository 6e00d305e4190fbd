-- Rows that are finished: their ratios to the earlier pivots before the diagonal, their entries from it on.
use Rattle.std.specs.Prelude.{◌≡◌, ⊤, ℕ, ◌+◌, ◌<◌, ◌≤◌, ℤ, List, length, take}
use Rattle.emtp_elim.specs.Matrix.{Matrix, item, row_of, entry}
use Rattle.emtp_elim.specs.Elimination.{ratio, stage}
use Rattle.emtp_elim.specs.held.Fault.{IsGoodRow, IsRowFault}
use Rattle.emtp_elim.specs.declared.fault.RowCause.{RowCause}
use Rattle.emtp_elim.specs.declared.fault.PlainFault.{PlainFault}
use Rattle.emtp_elim.specs.declared.fault.PlainFault.TheVariants.{Row, Solve, NoMemory}

-- how many entries a row has, the rows that are finished so far, and the capacities of the lists that hold them
pub record Finished : Type 0 where
  pub size : ℕ
  pub rows : Matrix
  pub capacities : List ℕ

-- row i once the columns before k have been cleared from it, with their ratios in their places
pub record IsPartRow (rows : Matrix) (i k : ℕ) (work : List ℤ) : Type 0 where
  pub length_is : length work ≡ length (row_of rows i)
  pub ratios : (j : ℕ) → j < k → item work j ≡ ratio (stage rows j) j i
  pub entries : (j : ℕ) → k ≤ j → j < length work → item work j ≡ entry (stage rows k) i j

-- the first rows of a matrix are good, and this is what elimination makes of them
pub record AreFinished (rows done : Matrix) : Type 0 where
  pub within : length done ≤ length rows
  pub finished : (i : ℕ) → i < length done → IsPartRow rows i i (row_of done i)
  pub good : (i : ℕ) → i < length done → IsGoodRow rows i

-- all rows of a matrix are good, and this is what elimination makes of them
pub record AreAllFinished (rows done : Matrix) : Type 0 where
  pub all : length done ≡ length rows
  pub finished : AreFinished rows done

-- fewer finished rows are finished too, and those of one matrix are those of each other one that begins with the same rows
pub record FinishedRowsStay : Type 0 where
  pub fewer : (rows done : Matrix) (n : ℕ) → n ≤ length done → AreFinished rows done → AreFinished rows (take n done)
  pub other : (rows others done : Matrix) → take (length done) rows ≡ take (length done) others
      → AreFinished rows done → AreFinished others done

-- a matrix whose first rows are finished, and which goes on with this row
pub record IsNext (rows done : Matrix) (row : List ℤ) : Type 0 where
  pub finished : AreFinished rows done
  pub within : length done < length rows
  pub row_is : row_of rows (length done) ≡ row

-- in every matrix that goes on with the old row after these finished ones, the new row is what elimination makes of it
pub record FinishesRow (done : Matrix) (old new : List ℤ) : Type 0 where
  pub finished : (rows : Matrix) → IsNext rows done old → IsPartRow rows (length done) (length done) new
  pub good : (rows : Matrix) → IsNext rows done old → IsGoodRow rows (length done)

-- every such matrix has its first fault in this row, for this cause
pub record FaultsRow (done : Matrix) (row : List ℤ) (cause : RowCause) : Type 0 where
  pub row_fault : (rows : Matrix) → IsNext rows done row → IsRowFault rows (length done) cause

-- the finished rows have one more, which is what elimination makes of the row
pub record IsRowAdded (old new : Finished) (row : List ℤ) : Type 0 where
  pub same_size : new.size ≡ old.size
  pub earlier : take (length old.rows) new.rows ≡ old.rows
  pub one_more : length new.rows ≡ length old.rows + 1
  pub finishes : FinishesRow old.rows row (row_of new.rows (length old.rows))

-- the finished rows have one more, and are those of every matrix that goes on with the row after the old ones
pub record AddsRow (old new : Finished) (row : List ℤ) : Type 0 where
  pub same_size : new.size ≡ old.size
  pub earlier : take (length old.rows) new.rows ≡ old.rows
  pub one_more : length new.rows ≡ length old.rows + 1
  pub finished : (rows : Matrix) → IsNext rows old.rows row → AreFinished rows new.rows

-- what may be wrong with a matrix alone
abbrev pub IsMatrixFault : Matrix → PlainFault → Type 0
IsMatrixFault rows (Row fault) = IsRowFault rows fault.row fault.cause
IsMatrixFault rows (Solve fault) = ⊥
IsMatrixFault rows NoMemory = ⊤
