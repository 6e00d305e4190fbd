-- Matrices of the tests.
use Rattle.std.specs.Prelude.{ℕ, ◌*◌, ◌+◌, ◌^◌, nat_lt, ℤ, pos, List, slice_range, slice_set, replicate, if◌then◌else◌}
use Rattle.emtp_elim.specs.Matrix.{Matrix, rows_of}

-- the row of n numbers with 1, in units of 1e-12, in column i, and 0 elsewhere
abbrev pub unit_row : ℕ → ℕ → List ℤ
unit_row n i = slice_set (replicate n (pos 0)) i (pos (10 ^ 12))

-- the matrix whose rows stand one after another, but for the first ones, which are unit rows
abbrev pub table_rows : ℕ → ℕ → List ℤ → Matrix
table_rows size fixed cells =
    rows_of size (λ i. if nat_lt i fixed then unit_row size i else slice_range cells (i * size) (i * size + size))
