-- What holds of a matrix that is given row by row.
use Rattle.std.specs.Prelude.{◌≡◌, ◌≢◌, ℕ, ◌^◌, ◌<◌, ◌≤◌, pos, unsigned_abs, length}
use Rattle.emtp_fix.specs.declared.limit.TheConstants.{PICO}
use Rattle.emtp_elim.specs.Matrix.{Matrix, entry}
use Rattle.emtp_elim.specs.held.Matrix.{IsSquare}
use Rattle.emtp_elim.specs.declared.limit.TheConstants.{MOST_ROWS}

-- the row has 1, in units of 1e-12, in its own column, and 0 elsewhere
pub record IsUnitRow (rows : Matrix) (i : ℕ) : Type 0 where
  pub own : entry rows i i ≡ PICO
  pub others : (j : ℕ) → j ≢ i → entry rows i j ≡ pos 0

-- a square matrix of at most `MOST_ROWS` rows, of which the fixed ones come first
pub record IsLawful (rows : Matrix) (fixed : ℕ) : Type 0 where
  pub few : length rows ≤ MOST_ROWS
  pub square : IsSquare rows
  pub fixed_first : fixed ≤ length rows
  pub units : (i : ℕ) → i < fixed → IsUnitRow rows i
  pub limit : (i j : ℕ) → unsigned_abs (entry rows i j) ≤ 10 ^ 26
