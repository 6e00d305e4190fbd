-- Which rows a change touches.
use Rattle.std.specs.Prelude.{◌≡◌, ◌≤◌, ℕ, if◌then◌else◌, Bool, true, false, List, length, take}
use Rattle.emtp_elim.specs.Matrix.{Matrix}
pub use Rattle.emtp_case.specs.NodeRows.{row_at}
use Rattle.emtp_case.specs.declared.row_kind.RowKind.{RowKind}
use Rattle.emtp_case.specs.declared.row_kind.RowKind.TheVariants.{Kcl, Sum, Tie, Ground, Source}
use Rattle.emtp_rows.specs.Nodal.{Nodal, nodal_matrix, kind_at, is_tie_to}

-- what a contract sees of the rows: what their matrix depends on, the row before which nothing was touched since it was
-- asked for last, and the capacities of the lists that a step writes
pub record NodalRows : Type 0 where
  pub nodal : Nodal
  pub touched : ℕ
  pub capacities : List ℕ

-- the rows before the first touched one are as they were
pub record Touches (old new : NodalRows) : Type 0 where
  pub earlier : new.touched ≤ old.touched
  pub before : take new.touched (nodal_matrix new.nodal) ≡ take new.touched (nodal_matrix old.nodal)

-- these rows, as many as there are, are those of the matrix but for the touched ones: so they may be kept
abbrev pub StandsUntouched : NodalRows → Matrix → Type 0
StandsUntouched s rows = (n : ℕ) → n ≤ s.touched → n ≤ length rows → take n (nodal_matrix s.nodal) ≡ take n rows

abbrev pub is_sum : RowKind → Bool
is_sum Kcl = false
is_sum Sum = true
is_sum (Tie row) = false
is_sum Ground = false
is_sum Source = false

-- the row, where it is the sum of a group; else the number of rows
abbrev pub sum_row : List RowKind → ℕ → ℕ
sum_row kinds row = if is_sum (kind_at kinds row) then row else length kinds

-- the sum that a row of this kind is tied to, or the number of rows, where it is tied to none
abbrev pub tied_row : List RowKind → RowKind → ℕ
tied_row kinds Kcl = length kinds
tied_row kinds Sum = length kinds
tied_row kinds (Tie to) = sum_row kinds to
tied_row kinds Ground = length kinds
tied_row kinds Source = length kinds

abbrev pub equation_by : List RowKind → ℕ → RowKind → ℕ
equation_by kinds row Kcl = row
equation_by kinds row Sum = row
equation_by kinds row (Tie to) = tied_row kinds (Tie to)
equation_by kinds row Ground = length kinds
equation_by kinds row Source = length kinds

-- the row that has the currents of the node of a row: its own or the sum of its group, or the number of rows, where no
-- row has them
abbrev pub equation_row : List RowKind → ℕ → ℕ
equation_row kinds row = equation_by kinds row (kind_at kinds row)

-- with row k of one kind or the other, row i says the same
pub record AgreesBy (kinds : List RowKind) (i k : ℕ) (old new : RowKind) : Type 0 where
  pub own : k ≡ i → old ≡ new
  pub member : kind_at kinds i ≡ Sum → is_tie_to i old ≡ is_tie_to i new
