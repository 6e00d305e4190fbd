-- A row that is written over zeros.
use Rattle.std.specs.Prelude.{◌≡◌, ℕ, ℤ, pos, List, length}
use Rattle.emtp_elim.specs.Matrix.{item}

-- it has so many numbers, and all of them are 0
pub record IsClearRow (size : ℕ) (row : List ℤ) : Type 0 where
  pub length_is : length row ≡ size
  pub zeros : (j : ℕ) → item row j ≡ pos 0
