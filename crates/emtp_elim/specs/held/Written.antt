-- Between which columns a row was written.
use Rattle.std.specs.Prelude.{◌≡◌, ℕ, ◌<◌, ◌≤◌, ℤ, pos, List, length}
use Rattle.emtp_elim.specs.Matrix.{item}
use Rattle.emtp_elim.specs.held.Extent.{IsClearAfter}

-- the row has only zeros before column `first` and from column `end` on
pub record IsWritten (row : List ℤ) (first end : ℕ) : Type 0 where
  pub within : end ≤ length row
  pub before : (j : ℕ) → j < first → item row j ≡ pos 0
  pub after : IsClearAfter row end
