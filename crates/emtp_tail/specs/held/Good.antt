-- What is kept of a matrix, and how far a new one agrees with it. No clause of the program reaches it.
use Rattle.std.specs.Prelude.{◌≡◌, ◌≢◌, ℕ, ◌<◌, ◌≤◌, List, length}
use Rattle.emtp_elim.specs.Matrix.{Matrix, row_of}

-- the size; the good rows, which are the first rows of the matrix that was given last; what elimination makes of them; the
-- capacities of the lists that an update writes
pub record Good : Type 0 where
  pub size : ℕ
  pub rows : Matrix
  pub done : Matrix
  pub capacities : List ℕ

-- row i is that row
pub record IsFirstChange (old new : Matrix) (i : ℕ) : Type 0 where
  pub within : i ≤ length old
  pub same : (h : ℕ) → h < i → row_of old h ≡ row_of new h
  pub differs : i < length old → row_of old i ≢ row_of new i
