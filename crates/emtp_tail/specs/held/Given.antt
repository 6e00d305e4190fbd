-- The rows of the matrix that was given last, as they are kept.
use Rattle.std.specs.Prelude.{ℕ, ◌+◌, ◌*◌, ℤ, List, slice_range}
use Rattle.emtp_elim.specs.Matrix.{Matrix, rows_of}

-- the rows of `size` numbers that stand one after another
abbrev pub rows_in : ℕ → ℕ → List ℤ → Matrix
rows_in size count values = rows_of count (λ i. slice_range values (i * size) (i * size + size))
