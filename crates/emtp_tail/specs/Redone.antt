-- The rows that the steps of a run redo, whatever a record is. Lists of records go newest first; `matrix` has the
-- matrix, of `size` rows, of the step after some records.
use Rattle.std.specs.Prelude.{ℕ, ◌+◌, ◌-◌, List, [], ◌∷◌}
use Rattle.emtp_elim.specs.Matrix.{Matrix}
use Rattle.emtp_tail.specs.Good.{first_change}

-- the matrix of the last step, of which record 0 has none
abbrev pub matrix_before : {R : Type 0} → (List R → Matrix) → List R → Matrix
matrix_before matrix [] = []
matrix_before matrix (r ∷ []) = []
matrix_before matrix (r ∷ s ∷ past) = matrix (s ∷ past)

-- the rows of the next step's matrix from the first one on that differs from the last step's
unfoldable pub rows_next : {R : Type 0} → ℕ → (List R → Matrix) → List R → ℕ
rows_next size matrix H = size - first_change (matrix_before matrix H) (matrix H)

-- the same as it counts: the first step counts nothing
abbrev pub redone_next : {R : Type 0} → ℕ → (List R → Matrix) → List R → ℕ
redone_next size matrix [] = 0
redone_next size matrix (r ∷ []) = 0
redone_next size matrix (r ∷ s ∷ past) = rows_next size matrix (r ∷ s ∷ past)

-- the sum over the steps that made the records
abbrev pub redone_over : {R : Type 0} → ℕ → (List R → Matrix) → List R → ℕ
redone_over size matrix [] = 0
redone_over size matrix (r ∷ past) = redone_over size matrix past + redone_next size matrix past
