-- The kinds of all rows of a nodal matrix.
use Rattle.std.specs.Prelude.{◌≡◌, ◌<◌, ℕ, List, All, length, slice_index_or}
use Rattle.emtp_case.specs.declared.row_kind.RowKind.{RowKind}
use Rattle.emtp_case.specs.declared.row_kind.RowKind.TheVariants.{Kcl, Sum, Tie, Ground, Source}

-- a tie names one of the rows
abbrev pub TieIsThere : ℕ → RowKind → Type 0
TieIsThere size Kcl = Unit {0}
TieIsThere size Sum = Unit {0}
TieIsThere size (Tie row) = row < size
TieIsThere size Ground = Unit {0}
TieIsThere size Source = Unit {0}

-- the kinds of the rows of a matrix: the first ones have a source
pub record AreKinds (size fixed : ℕ) (kinds : List RowKind) : Type 0 where
  pub count : length kinds ≡ size
  pub sources : (i : ℕ) → i < fixed → slice_index_or kinds i Ground ≡ Source
  pub ties : All (TieIsThere size) kinds
