-- Beside `Fault`: what values hold for their proofs, and what premises say. No clause of the program reaches it.
use Rattle.std.specs.Prelude.{◌≡◌, ℕ, ◌<◌, ℤ, List, length, Some, None}
use Rattle.emtp_elim.specs.Matrix.{Matrix}
use Rattle.emtp_elim.specs.declared.fault.RowCause.{RowCause}
use Rattle.emtp_elim.specs.Fault.{row_fault, right_fault}

abbrev pub IsGoodRow : Matrix → ℕ → Type 0
IsGoodRow rows i = row_fault rows i ≡ None

-- row i is the least faulty one, and this is its cause
pub record IsRowFault (rows : Matrix) (i : ℕ) (cause : RowCause) : Type 0 where
  pub within : i < length rows
  pub earlier : (h : ℕ) → h < i → IsGoodRow rows h
  pub is : row_fault rows i ≡ Some (record { row = i; cause = cause })

-- every row is good
pub record IsGoodMatrix (rows : Matrix) : Type 0 where
  pub each : (i : ℕ) → i < length rows → IsGoodRow rows i

abbrev pub IsGoodRight : Matrix → List ℤ → ℕ → Type 0
IsGoodRight rows right i = right_fault rows right i ≡ None

-- row i is the least one whose right side leaves its range
pub record IsRightFault (rows : Matrix) (right : List ℤ) (i : ℕ) : Type 0 where
  pub within : i < length rows
  pub earlier : (h : ℕ) → h < i → IsGoodRight rows right h
  pub is : right_fault rows right i ≡ Some (record { row = i })
