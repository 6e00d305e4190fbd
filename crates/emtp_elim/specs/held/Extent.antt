-- Between which columns a row has its numbers.
use Rattle.std.specs.Prelude.{◌≡◌, ℕ, ◌<◌, ◌≤◌, ℤ, pos, List, length}
use Rattle.emtp_elim.specs.Matrix.{item}
use Rattle.emtp_elim.specs.declared.extent.Extent.{Extent}

-- the row has only zeros from this column on
abbrev pub IsClearAfter : List ℤ → ℕ → Type 0
IsClearAfter row end = (j : ℕ) → end ≤ j → item row j ≡ pos 0

-- the row has only zeros before these columns and after them, and its diagonal among them
pub record IsExtent (row : List ℤ) (extent : Extent) : Type 0 where
  pub low : extent.first ≤ extent.diagonal
  pub high : extent.diagonal < extent.end
  pub within : extent.end ≤ length row
  pub before : (j : ℕ) → j < extent.first → item row j ≡ pos 0
  pub after : IsClearAfter row extent.end
